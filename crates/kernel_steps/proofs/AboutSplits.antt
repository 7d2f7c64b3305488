-- Splitting steps and their tables.
pub mod SplitLemmas
pub mod SplitLoops
pub mod SplitTables
pub mod SplitTests
