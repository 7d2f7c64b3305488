-- An entry put in or taken out.
pub mod EditLemmas
pub mod RemoveLemmas
pub mod TailEdits
