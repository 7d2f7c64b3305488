-- What symbols give as functions, and searches over values.
pub mod ListLemmas
pub mod Search
pub mod Structures
