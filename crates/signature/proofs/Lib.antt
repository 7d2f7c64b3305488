-- A map of the proofs, by topic; what is proved of one function stands in the folder of its module.
-- OccurrenceLemmas: the symbols that a walk over a problem meets.
pub mod OccurrenceLemmas
-- SignatureLemmas: that the symbols of a problem are those of a signature, and stay so.
pub mod SignatureLemmas
-- PrefixLemmas: the least number of `_`.
pub mod PrefixLemmas
-- SkolemLemmas: how many Skolem symbols the work on a formula makes.
pub mod SkolemLemmas
