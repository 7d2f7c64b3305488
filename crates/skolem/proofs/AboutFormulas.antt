-- Formulas, problems, their symbols and counts.
pub mod FormLemmas
pub mod ProblemLemmas
pub mod CountLemmas
pub mod SymbolLemmas
pub mod ClauseLemmas
pub mod LiteralLemmas
pub mod OutlineLemmas
pub mod HeavyLemmas
