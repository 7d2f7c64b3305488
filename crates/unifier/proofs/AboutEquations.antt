-- Unifying by equations, and what is solved.
pub mod EquationLemmas
pub mod SolutionLemmas
pub mod SolveLemmas
pub mod SolvedLemmas
pub mod ResolveLemmas
pub mod UnifyLemmas
