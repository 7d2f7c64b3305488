-- A map of the proofs, by topic; what is proved of one function stands in the folder of its module.
-- AboutParts: parts of a general term, read and made.
pub mod AboutParts
-- AboutWholes: whole sources: read exactly.
pub mod AboutWholes
-- AboutLevels: how deep brackets are nested.
pub mod AboutLevels
