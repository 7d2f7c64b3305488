-- The finest parts of a clause.
pub mod ComponentExamples
pub mod ComponentLemmas
pub mod ForestLemmas
pub mod GroupLemmas
pub mod PlaceLemmas
pub mod SplitLemmas
pub mod UniqueLemmas
pub mod WholeLemmas
