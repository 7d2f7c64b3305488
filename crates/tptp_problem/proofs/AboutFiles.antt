-- Files, includes and names.
pub mod AsciiLemmas
pub mod FileLemmas
pub mod IncludeLemmas
pub mod NameLemmas
pub mod NameSetLemmas
pub mod SizeLemmas
