-- Closed sets, covered clauses and the laws.
pub mod ConclusionLemmas
pub mod CoverageLemmas
pub mod LawLemmas
pub mod OutcomeLemmas
pub mod RenamingLemmas
