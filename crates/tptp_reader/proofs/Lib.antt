-- A map of the proofs, by topic; what is proved of one function stands in the folder of its module.
-- AboutSteps: one step of the machine that reads.
pub mod AboutSteps
-- AboutRuns: runs of steps, how they end.
pub mod AboutRuns
-- AboutReads: what a run reads, by kind.
pub mod AboutReads
-- AboutTexts: tokens and texts, spelled and printed.
pub mod AboutTexts
