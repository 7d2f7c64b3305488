-- Lines of a derivation as ground instances.
pub mod GroundTrees
pub mod GroundedLemmas
pub mod GroundedLemmasNames
pub mod GroundedLemmasChain
pub mod GroundedLemmasSplit
pub mod GroundedLemmasSteps
pub mod GroundedLemmasLines
