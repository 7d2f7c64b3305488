-- The whole run, and what each of its statuses says.
pub mod BenchRowLemmas
pub mod CheckRowLemmas
pub mod DecideRowLemmas
pub mod EndLemmas
pub mod GroundRowLemmas
pub mod ModelRowLemmas
pub mod ProveRowLemmas
pub mod RowLemmas
pub mod RunLemmas
pub mod StatusLemmas
