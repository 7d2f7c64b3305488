-- A map of the proofs, by topic; what is proved of one function stands in the folder of its module.
-- WorkedExamples: worked histories, lawful and unlawful.
pub mod WorkedExamples
-- What is kept of an inference is reduced: ReducedLemmas.
mod ReducedLemmas
