-- A map of the proofs, by topic; what is proved of one function stands in the folder of its module.
-- AboutSteps: one step of the machine.
pub mod AboutSteps
-- AboutRuns: runs of steps, how they end.
pub mod AboutRuns
-- AboutTexts: what a run says of the tokens.
pub mod AboutTexts
