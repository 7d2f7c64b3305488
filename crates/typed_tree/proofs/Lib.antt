-- A map of the proofs, by topic; what is proved of one function stands in the folder of its module.
-- AboutUniqueness: tokens begin with one entry at most.
pub mod AboutUniqueness
