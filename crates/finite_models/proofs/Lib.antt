-- A map of the proofs, by topic; what is proved of one function stands in the folder of its module.
-- AboutNumbers: lists of values as numbers, and tests of all numbers.
pub mod AboutNumbers
-- AboutFlattening: a clause holds where its flat clause is true for all values in the slots.
pub mod AboutFlattening
-- AboutTables: names of entries, and what leads from a table to a valuation and back.
pub mod AboutTables
-- AboutLoops: one more turn of the loops that write literals and clauses.
pub mod AboutLoops
