-- A map of the proofs, by topic; what is proved of one function stands in the folder of its module.
-- AboutNeeded: the lines that the last one needs.
pub mod AboutNeeded
-- AboutPrinted: printed clauses, terms, names and sources.
pub mod AboutPrinted
-- ReadAgain: what is printed is read again as it was.
pub mod ReadAgain
