-- A conflict, what is learned, and the log.
pub mod AnalysisLemmas
pub mod LogLemmas
pub mod MarkLemmas
pub mod ReduceLemmas
pub mod ResolveLemmas
pub mod EndLemmas
