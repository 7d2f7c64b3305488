-- Worked histories, lawful and unlawful.
pub mod AnswerExamples
pub mod CarriedExamples
pub mod CuttingExample
pub mod DenyingExample
pub mod DroppingExample
pub mod EntryExample
pub mod GoingExample
pub mod LawfulExamples
pub mod MeetingExample
pub mod PartingExample
pub mod RemovingExample
pub mod ReturnExamples
pub mod SaturatedExamples
pub mod SteppingExample
