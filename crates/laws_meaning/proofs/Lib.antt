-- A map of the proofs, by topic; what is proved of one function stands in the folder of its module.
-- AboutStructures: what symbols give as functions, and searches over values.
pub mod AboutStructures
-- AboutFormulas: the truth of formulas under values of names.
pub mod AboutFormulas
-- AboutWork: the work on formulas makes clauses that are true where the formulas are.
pub mod AboutWork
-- AboutForms: the clausal form of a problem, and the interpretations that make it true.
pub mod AboutForms
-- AboutReturn: the way back, formulas are true where their clauses are.
pub mod AboutReturn
-- WorkedExamples: worked examples.
pub mod WorkedExamples
