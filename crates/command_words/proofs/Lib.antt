-- A map of the proofs, by topic; what is proved of one function stands in the folder of its module.
-- AboutWords: words after a command, and the values of options.
pub mod AboutWords
