-- Tags and signed names.
pub mod EntryLemmas
pub mod OppositeLemmas
pub mod SignedLawLemmas
pub mod SignedLemmas
pub mod TagLawLemmas
pub mod TagLemmas
