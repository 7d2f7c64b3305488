-- A map of the proofs, by topic; what is proved of one function stands in the folder of its module.
-- AboutBeginnings: the new pool and its inputs.
pub mod AboutBeginnings
-- AboutClaims: claims, the solver's job, and jobs that are given up.
pub mod AboutClaims
-- AboutReturns: the work of a batch and its return.
pub mod AboutReturns
-- AboutSplits: parts, the lines that introduce their names, and the clauses over names.
pub mod AboutSplits
-- AboutWaking: clauses that wake, fall asleep or are registered, the index of assertions and the queue.
pub mod AboutWaking
