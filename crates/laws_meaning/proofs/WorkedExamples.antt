-- Worked examples.
pub mod SmallExamples
