-- A map of the proofs, by topic; what is proved of one function stands in the folder of its module.
-- AboutAdditions: unifiers and matchers add no symbols and no variables.
pub mod AboutAdditions
-- AboutClasses: unifying by classes of cells.
pub mod AboutClasses
-- AboutEquations: unifying by equations, and what is solved.
pub mod AboutEquations
-- AboutLayouts: bindings laid out: places, values, sizes, names.
pub mod AboutLayouts
-- AboutMatching: matching, and worked examples.
pub mod AboutMatching
