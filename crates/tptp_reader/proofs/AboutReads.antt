-- What a run reads, by kind.
pub mod AtomReads
pub mod BoundLemmas
pub mod ClauseReads
pub mod EntryReads
pub mod EntryWhole
pub mod FormulaReads
pub mod NotesReads
pub mod TermReads
pub mod VariableReads
pub mod AnnotatingLemmas
