-- The count, deaths and their justifiers.
pub mod CountLemmas
pub mod CountedLemmas
pub mod CountedRecords
pub mod DeathLemmas
pub mod FirstRemovalLemmas
pub mod JustifiedLemmas
pub mod KnownLemmas
pub mod ProposedLemmas
pub mod ReducedLemmas
pub mod SizedLemmas
pub mod SpentLemmas
