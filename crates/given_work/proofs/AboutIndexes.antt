-- What the index holds.
pub mod SetLemmas
pub mod Slots
pub mod StoreLemmas
pub mod TellingLemmas
