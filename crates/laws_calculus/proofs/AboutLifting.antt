-- From ground inferences to inferences of clauses.
pub mod LiftLemmas
pub mod LiftRules
pub mod UnifierLemmas
pub mod VariantLemmas
pub mod LiteralLemmas
pub mod ConclusionLemmas
pub mod PlacedLemmas
