-- A map of the proofs, by topic; what is proved of one function stands in the folder of its module.
-- AboutCarried: what is carried through a history, event by event.
pub mod AboutCarried
-- AboutClosing: closed sets, covered clauses and the laws.
pub mod AboutClosing
