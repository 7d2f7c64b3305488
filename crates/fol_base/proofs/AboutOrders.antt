-- The total order of trees and clauses, by which lists are kept.
pub mod TreeOrderLemmas
pub mod OrderLemmas
pub mod ClauseOrderLemmas
pub mod TotalLemmas
