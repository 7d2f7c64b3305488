-- A map of the proofs, by topic; what is proved of one function stands in the folder of its module.
-- AboutIndexes: units by their numbers, and the sides by which they are found.
pub mod AboutIndexes
-- AboutSearches: the search, with the pairs of a matcher, one side of one unit, and all units at all places.
pub mod AboutSearches
-- AboutRedexes: redexes as rewriting steps, with the kinds of terms, the laws, and the members that a unit rewrites.
pub mod AboutRedexes
