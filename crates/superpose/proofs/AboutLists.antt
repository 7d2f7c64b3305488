-- All superpositions of two clauses.
pub mod ListLemmas
pub mod SuperposeLemmas
