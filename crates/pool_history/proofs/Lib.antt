-- A map of the proofs, by topic; what is proved of one function stands in the folder of its module.
-- AboutBounds: the bound on claims.
pub mod AboutBounds
-- AboutClaims: claims, what is given next, jobs and batches that stay right.
pub mod AboutClaims
-- AboutCounting: the count, deaths and their justifiers.
pub mod AboutCounting
-- AboutLines: whole clauses, the lines of the pool, splits and names, and the logs of the solver.
pub mod AboutLines
-- AboutOutcomes: outcomes stay, nothing comes after an end, what is set aside.
pub mod AboutOutcomes
-- AboutRecords: what a record of the pool is, and what registering changes.
pub mod AboutRecords
