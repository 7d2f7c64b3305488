-- Problems that are read have no free variables, and their formulas can be printed.
pub mod BoundLemmas
pub mod ClauseForms
pub mod ClosedLemmas
pub mod PrintableLemmas
pub mod PrintedLevels
