pub mod NumberingLemmas
pub mod SelectionLemmas
pub mod KeptLemmas
