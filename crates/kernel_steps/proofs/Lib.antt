-- A map of the proofs, by topic; what is proved of one function stands in the folder of its module.
-- AboutNames: names of parts: their order, their sets, their truth.
pub mod AboutNames
-- AboutSplits: splitting steps and their tables.
pub mod AboutSplits
-- AboutCalls: the loops and calls that make a verdict.
pub mod AboutCalls
-- AboutSoundness: what a right step means: truth of rules, steps and whole refutations.
pub mod AboutSoundness
-- AboutGrounding: lines of a derivation as ground instances.
pub mod AboutGrounding
-- WorkedExamples: worked examples.
pub mod WorkedExamples
