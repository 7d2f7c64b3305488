-- The whole of a job's work, laws and examples.
pub mod WorkLemmas
pub mod LawProofs
pub mod Examples
