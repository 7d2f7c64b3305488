-- Runs of steps, how they end.
pub mod RunEntries
pub mod RunFormulas
pub mod RunTerms
pub mod LoopLemmas
pub mod ReachLemmas
pub mod TraceLemmas
pub mod StopLemmas
pub mod FollowLemmas
