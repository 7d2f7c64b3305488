-- The way back: formulas are true where their clauses are.
pub mod Openings
pub mod Ranges
pub mod ReturnProducts
pub mod ReturnSteps
pub mod ReturnWorks
