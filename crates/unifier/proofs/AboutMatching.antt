-- Matching, and worked examples.
pub mod MatchLemmas
pub mod ExampleLemmas
