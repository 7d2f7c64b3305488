-- A map of the proofs, by topic; what is proved of one function stands in the folder of its module.
-- AboutSearch: the search for a matcher of all literals.
pub mod AboutSearch
-- AboutTree: the tree of features.
pub mod AboutTree
