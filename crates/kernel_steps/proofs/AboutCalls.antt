-- The loops and calls that make a verdict.
pub mod CallLemmas
pub mod LoopLemmas
pub mod ChainLemmas
pub mod ItemLemmas
pub mod LineLemmas
pub mod ParentLemmas
pub mod BoundLemmas
pub mod PushLemmas
pub mod SymbolLemmas
pub mod VerdictParts
