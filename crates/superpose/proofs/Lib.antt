-- A map of the proofs, by topic; what is proved of one function stands in the folder of its module.
-- AboutSites: sites of a clause: sides that start, places that are entered.
pub mod AboutSites
-- AboutSteps: one superposition: terms, sizes, numbering, the step.
pub mod AboutSteps
-- AboutLists: all superpositions of two clauses.
pub mod AboutLists
