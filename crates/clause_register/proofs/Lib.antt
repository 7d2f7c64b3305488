-- A map of the proofs, by topic; what is proved of one function stands in the folder of its module.
-- PlaceLemmas: the place of the first that passes a test, in a list with one more or with another in its place.
pub mod PlaceLemmas
-- ChainLemmas: numbers chained by their keys: the newest below a number, and one more number.
pub mod ChainLemmas
-- RegisterLemmas: look-ups after a clause is registered, and after what is kept of one is changed.
pub mod RegisterLemmas
-- LookUpLemmas: a walk down the chain of a hash finds the living copy of a clause exactly where there is one.
pub mod LookUpLemmas
