-- Unifying by classes of cells.
pub mod CellLemmas
pub mod ClashLemmas
pub mod ClassLemmas
pub mod ClosingLemmas
pub mod CodeLemmas
pub mod FoundLemmas
pub mod JoiningLemmas
pub mod OccursLemmas
pub mod SharedLemmas
