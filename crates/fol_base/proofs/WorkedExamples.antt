-- Worked examples.
pub mod ExampleLemmas
pub mod MatchingExamples
pub mod TestLemmas
