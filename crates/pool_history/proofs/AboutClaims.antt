-- Claims, what is given next, jobs and batches that stay right.
pub mod ClaimedRecords
pub mod EndedLemmas
pub mod HandLemmas
pub mod HistoryLemmas
pub mod ModelLemmas
pub mod PickLemmas
pub mod SolverLemmas
pub mod StayingLemmas
