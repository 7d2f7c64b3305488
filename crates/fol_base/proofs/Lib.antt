-- A map of the proofs, by topic; what is proved of one function stands in the folder of its module.
-- AboutTerms: trees of terms: variables, kinds, equality.
pub mod AboutTerms
-- AboutOrders: the total order of trees and clauses, by which lists are kept.
pub mod AboutOrders
-- AboutClauses: clauses: what they say, rules on their literals, ground inferences.
pub mod AboutClauses
-- AboutInstances: instances, their sizes and places, ground instances and what they cover.
pub mod AboutInstances
-- AboutCanonical: the canonical form and its one walk.
pub mod AboutCanonical
-- WorkedExamples: worked examples.
pub mod WorkedExamples
pub mod ListLemmas
