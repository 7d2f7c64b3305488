-- Parts, the lines that introduce their names, and the clauses over names.
pub mod MadeLemmas
pub mod NewPartLemmas
pub mod PartedLemmas
pub mod AssertedLemmas
pub mod HandedLemmas
pub mod PartsLemmas
pub mod SortedLemmas
pub mod SplitsLemmas
