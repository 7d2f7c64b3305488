-- What each outcome says of the problem.
pub mod FormSymbols
pub mod HistoryLemmas
pub mod InputLemmas
pub mod LineLemmas
pub mod ModelLemmas
pub mod OutcomeLemmas
pub mod PartLemmas
pub mod RefutedLemmas
pub mod ReportLemmas
pub mod SaturatedLemmas
pub mod TheoremLemmas
pub mod WholeLemmas
