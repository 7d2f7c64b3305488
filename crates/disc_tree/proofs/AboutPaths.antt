-- Labels, paths and what a tree of nodes holds.
pub mod LabelLemmas
pub mod PathLemmas
pub mod PrefixLemmas
pub mod ChildLemmas
pub mod SlotLemmas
pub mod EntryLemmas
