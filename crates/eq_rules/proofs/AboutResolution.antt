-- Equality resolution.
pub mod ResolutionAnswers
pub mod ResolutionLemmas
pub mod ResolutionLists
