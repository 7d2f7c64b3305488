-- The whole text.
pub mod CheckLemmas
pub mod LinesLemmas
pub mod ReadingLemmas
pub mod TakenLemmas
