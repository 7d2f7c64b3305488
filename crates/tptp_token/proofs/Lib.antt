-- A map of the proofs, by topic; what is proved of one function stands in the folder of its module.
-- AboutLexemes: one lexeme: kinds, words, quotes, numbers.
pub mod AboutLexemes
-- AboutTexts: texts as tokens.
pub mod AboutTexts
