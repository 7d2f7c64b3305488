-- The work on formulas makes clauses that are true where the formulas are.
pub mod Atoms
pub mod Extending
pub mod Products
pub mod Scopes
pub mod Works
