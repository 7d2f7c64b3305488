-- Tokens and texts, spelled and printed.
pub mod AnswerLemmas
pub mod OutcomeLemmas
pub mod PlacedLemmas
pub mod PrintedLemmas
pub mod RisingLemmas
pub mod Spelled
pub mod TellingLemmas
pub mod TextLemmas
pub mod TokenTests
pub mod VerdictLemmas
