-- Entries and lines of a batch, what goes and what stays.
pub mod BatchLines
pub mod DroppedLemmas
pub mod EntryLemmas
pub mod GoingLemmas
pub mod Justifiers
pub mod Kept
pub mod NameLemmas
pub mod RemovalLemmas
pub mod ResultLemmas
