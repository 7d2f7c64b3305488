-- Names of parts: their order, their sets, their truth.
pub mod NameLemmas
pub mod SortedNames
pub mod NameRanks
pub mod NameSorts
pub mod NameSetLemmas
pub mod NameTruth
