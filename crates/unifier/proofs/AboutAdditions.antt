-- Unifiers and matchers add no symbols and no variables.
pub mod SymbolLemmas
pub mod VariableLemmas
pub mod SubtermLemmas
