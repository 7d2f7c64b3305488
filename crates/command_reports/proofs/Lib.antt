-- A map of the proofs, by topic; what is proved of one function stands in the folder of its module.
-- AboutPages: texts and pages of a report, and the names in them.
pub mod AboutPages
