-- Right answers.
pub mod ModelLemmas
pub mod SolverLemmas
pub mod SoundLemmas
pub mod TrimLemmas
pub mod UseLemmas
