-- A map of the proofs, by topic; what is proved of one function stands in the folder of its module.
-- AboutLifting: from ground inferences to inferences of clauses.
pub mod AboutLifting
-- AboutCovering: what is covered, reached and closed.
pub mod AboutCovering
-- WorkedExamples: worked examples.
pub mod WorkedExamples
