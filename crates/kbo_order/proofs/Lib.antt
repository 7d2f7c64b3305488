-- A map of the proofs, by topic; what is proved of one function stands in the folder of its module.
-- AboutReading: reading two terms side by side: variables met, their balance, blocks of bits.
pub mod AboutReading
-- AboutMultisets: literals and clauses as multisets, their loops.
pub mod AboutMultisets
-- AboutLaws: laws of the order: total on ground terms, strict, stable, above its subterms.
pub mod AboutLaws
