-- The truth of formulas under values of names.
pub mod NameLemmas
pub mod SignLemmas
