-- A map of the proofs, by topic; what is proved of one function stands in the folder of its module.
-- Kept: what a queue keeps where a node was taken out of its tree.
mod Kept
-- Numbers: between what the pairs have and what the search tree knows of them.
pub mod Numbers
-- PairsLemmas: laws of `with_pair` and `without`.
pub mod PairsLemmas
-- Placed: what is known at a place that has a node, and what a step down the tree keeps.
mod Placed
-- Rows: worked rows of the definitions: the clauses 0, 1 and 2 of the sizes 5, 3 and 3.
pub mod Rows
-- PutBack: a pair that is taken out and put back.
pub mod PutBack
-- Peeks: what is seen at the top of a tree is what would be picked.
pub mod Peeks
