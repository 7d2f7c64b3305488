-- A map of the proofs, by topic; what is proved of one function stands in the folder of its module.
-- RowLemmas: the lengths of rows, and in which row a place is.
pub mod RowLemmas
-- LookupLemmas: facts about look-ups of trees in lists of entries.
pub mod LookupLemmas
-- ChainLemmas: the chains of a table: a walk down one finds a tree exactly where the table has it.
pub mod ChainLemmas
-- TableLemmas: a table that learns a tree is still of its bank.
pub mod TableLemmas
-- InterningLemmas: interning several trees, one after another.
pub mod InterningLemmas
