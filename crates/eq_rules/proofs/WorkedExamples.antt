-- Worked examples.
pub mod ExampleLemmas
