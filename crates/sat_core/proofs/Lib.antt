-- A map of the proofs, by topic; what is proved of one function stands in the folder of its module.
-- AboutTrails: literals, their truth, the trail and propagation.
pub mod AboutTrails
-- AboutConflicts: a conflict, what is learned, and the log.
pub mod AboutConflicts
-- AboutAnswers: right answers.
pub mod AboutAnswers
