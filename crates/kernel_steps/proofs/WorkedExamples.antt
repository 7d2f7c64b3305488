-- Worked examples.
pub mod DerivationExamples
pub mod ChangedExamples
pub mod NameExamples
pub mod InferenceExamples
pub mod SuperpositionExamples
pub mod ReductionExamples
