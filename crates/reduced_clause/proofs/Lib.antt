-- The worked reduction (Examples); further lines behind lines (VerdictLemmas, LineLemmas), their symbols (SymbolLemmas), and the law
-- that a reduced clause goes on by a move (ExtendingLemmas).
pub mod Examples
pub mod VerdictLemmas
pub mod LineLemmas
pub mod SymbolLemmas
pub mod ExtendingLemmas
