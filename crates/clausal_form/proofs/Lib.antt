-- A map of the proofs, by topic; what is proved of one function stands in the folder of its module.
-- AboutCounts: sizes and faults.
pub mod AboutCounts
-- AboutNaming: products, and which lists are named.
pub mod AboutNaming
-- AboutWriting: the written clauses and their loops.
pub mod AboutWriting
-- AboutForms: the whole form: symbols, shapes, what it is well formed over.
pub mod AboutForms
-- AboutDerivations: derivations of a form as text.
pub mod AboutDerivations
