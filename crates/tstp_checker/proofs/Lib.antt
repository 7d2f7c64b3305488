-- A map of the proofs, by topic; what is proved of one function stands in the folder of its module.
-- AboutVerdicts: the verdict on a line, by its kind.
pub mod AboutVerdicts
-- AboutDerivations: the whole text.
pub mod AboutDerivations
