-- The verdict on a line, by its kind.
pub mod AtomLemmas
pub mod ClassLemmas
pub mod ClauseLineLemmas
pub mod ComponentLemmas
pub mod FormulaLineLemmas
pub mod InputLemmas
pub mod KernelLineLemmas
pub mod RuleLineLemmas
pub mod RuleStepLemmas
pub mod VerdictLemmas
