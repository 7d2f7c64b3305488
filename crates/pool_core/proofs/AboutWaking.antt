-- Clauses that wake, fall asleep or are registered, the index of assertions and the queue.
pub mod AssertionLemmas
pub mod AwakeLemmas
pub mod NodeLemmas
pub mod QueueLemmas
pub mod RefreshLemmas
pub mod RegisteredLemmas
pub mod TagLemmas
