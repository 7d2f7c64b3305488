-- A map of the proofs, by topic; what is proved of one function stands in the folder of its module.
-- AboutClasses: signatures, gaps, and classes that join no more than the equations ask.
pub mod AboutClasses
-- AboutModels: clauses over equations, what breaks equality, and why the loop ends.
pub mod AboutModels
