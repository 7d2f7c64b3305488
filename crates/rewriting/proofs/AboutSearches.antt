-- The search, with the pairs of a matcher, one side of one unit, and all units at all places.
pub mod PairLemmas
pub mod DescentLemmas
pub mod TryLemmas
pub mod SearchLemmas
pub mod TableLemmas
