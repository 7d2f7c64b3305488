-- One step of the machine that reads.
pub mod AtomSteps
pub mod ClauseSteps
pub mod FormulaSteps
pub mod StepEntries
pub mod StepFormulas
pub mod StepLemmas
pub mod StepTerms
pub mod HaltLemmas
