-- What is carried through a history, event by event.
pub mod ArrivalLemmas
pub mod AwakeLemmas
pub mod CarriedLemmas
pub mod DivideLemmas
pub mod EntryLemmas
pub mod FitLemmas
pub mod FixedLemmas
pub mod HistoryLemmas
pub mod MeetingLemmas
pub mod RegisteredLemmas
pub mod RemovalLemmas
pub mod ReturnLemmas
pub mod StateLemmas
pub mod TallyLemmas
pub mod VictimLemmas
