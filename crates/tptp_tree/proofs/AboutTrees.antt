-- Sizes and equality of trees.
-- SizeLemmas: a member of a list is no larger than the list.
pub mod SizeLemmas
-- EqualityLemmas: formulas are the same exactly where they are equal.
pub mod EqualityLemmas
