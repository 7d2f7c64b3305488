-- A map of the proofs, by topic; what is proved of one function stands in the folder of its module.
-- AboutReadings: what a line's text says: clauses, bindings, names.
pub mod AboutReadings
-- AboutItems: what the items of an inference say, and the step that they name.
pub mod AboutItems
