pub mod Examples
pub mod CarriedExamples
pub mod Reduced
