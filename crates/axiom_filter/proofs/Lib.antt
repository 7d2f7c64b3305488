-- A map of the proofs, by topic; what is proved of one function stands in the folder of its module.
-- AboutTables: rows of numbers, marks, an index, and the walk over them.
pub mod AboutTables
-- AboutSelections: that the walk over numbers is the selection.
pub mod AboutSelections
-- AboutParts: parts of a form, and derivations from them.
pub mod AboutParts
