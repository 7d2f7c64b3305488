-- Worked examples.
pub mod ClosureExamples
pub mod ExampleLemmas
pub mod RefusedExamples
