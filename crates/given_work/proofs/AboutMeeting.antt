-- Inferences with told clauses.
pub mod InferenceLemmas
pub mod KeyLemmas
pub mod MeetLemmas
pub mod OccurringLemmas
