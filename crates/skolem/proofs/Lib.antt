-- A map of the proofs, by topic; what is proved of one function stands in the folder of its module.
-- AboutFormulas: formulas, problems, their symbols and counts.
pub mod AboutFormulas
-- AboutBindings: what stands for a bound variable, in order.
pub mod AboutBindings
