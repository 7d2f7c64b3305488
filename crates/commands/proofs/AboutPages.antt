-- Texts that have one answer, and how a report is delivered.
pub mod AnswerLemmas
pub mod DeliveryLemmas
pub mod ModelOne
pub mod OneAnswer
pub mod OnlyReport
pub mod PieceExamples
pub mod PlacedLemmas
pub mod ReadLemmas
pub mod TextLemmas
