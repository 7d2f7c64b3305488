-- A map of the proofs, by topic; what is proved of one function stands in the folder of its module.
-- AboutPages: texts that have one answer, and how a report is delivered.
pub mod AboutPages
-- AboutOutcomes: what each outcome says of the problem.
pub mod AboutOutcomes
-- AboutMade: problems that no file spells.
pub mod AboutMade
-- AboutBench: the problems of `bench`.
pub mod AboutBench
-- AboutGround: the lines of an accepted text, their ground list, and forms without variables.
pub mod AboutGround
-- AboutReading: problems that are read have no free variables, and can be printed.
pub mod AboutReading
-- AboutRuns: the whole run, and what each of its statuses says.
pub mod AboutRuns
