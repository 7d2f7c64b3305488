-- A map of the proofs, by topic; what is proved of one function stands in the folder of its module.
-- AboutBatches: entries and lines of a batch, what goes and what stays.
pub mod AboutBatches
-- AboutMeeting: inferences with told clauses.
pub mod AboutMeeting
-- AboutIndexes: what the index holds.
pub mod AboutIndexes
-- AboutLearning: what an index learns of a history.
pub mod AboutLearning
-- AboutWhole: the whole of a job's work, laws and examples.
pub mod AboutWhole
