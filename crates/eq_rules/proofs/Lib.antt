-- A map of the proofs, by topic; what is proved of one function stands in the folder of its module.
-- AboutFactoring: equality factoring, from its pairs to its lists.
pub mod AboutFactoring
-- AboutResolution: equality resolution.
pub mod AboutResolution
-- AboutConclusions: what any inference makes: bindings, sizes, the step and its key.
pub mod AboutConclusions
-- WorkedExamples: worked examples.
pub mod WorkedExamples
