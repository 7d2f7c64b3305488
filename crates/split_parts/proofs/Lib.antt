-- A map of the proofs, by topic; what is proved of one function stands in the folder of its module.
-- AboutParts: the finest parts of a clause.
pub mod AboutParts
-- AboutTags: tags and signed names.
pub mod AboutTags
