-- The clausal form of a problem, and the interpretations that make it true.
pub mod ConsequenceLemmas
pub mod ExtendedLemmas
pub mod FormedLemmas
pub mod KindLemmas
pub mod ReturnedLemmas
pub mod SymbolLemmas
pub mod TableLemmas
pub mod TermLemmas
