-- One rewrite step and the lines of all.
pub mod BoundLemmas
pub mod CallLemmas
pub mod LineLemmas
pub mod NameLemmas
pub mod NormalLemmas
pub mod StepLemmas
pub mod StepParts
pub mod SymbolLemmas
