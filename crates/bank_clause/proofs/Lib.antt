-- A map of the proofs, by topic; what is proved of one function stands in the folder of its module.
-- SidesLemmas: the sides of a clause's literals, interned one literal after another.
pub mod SidesLemmas
-- ClauseLemmas: a clause whose names are assertions is the same after its names are stripped of their signs.
pub mod ClauseLemmas
-- ExampleLemmas: the worked examples in a bank.
pub mod ExampleLemmas
-- EqualityLemmas: what is equal by numbers, one literal after another.
pub mod EqualityLemmas
-- HashLemmas: clauses that are equal by numbers have one hash.
pub mod HashLemmas
-- BoundLemmas: a canonical clause has at most as many variables as symbols and variables stand in it.
pub mod BoundLemmas
