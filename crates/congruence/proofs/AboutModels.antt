-- Clauses over equations, what breaks equality, and why the loop ends.
pub mod ClauseLemmas
pub mod ReasonLemmas
pub mod CountLemmas
pub mod EndLemmas
