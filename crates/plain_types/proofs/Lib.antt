-- A map of the proofs, by topic; what is proved of one function stands in the folder of its module.
-- Parity: numbers as doubles of their halves, with one more for odd ones.
pub mod Parity
-- NameLemmas: signed names, and their lists as sets.
pub mod NameLemmas
