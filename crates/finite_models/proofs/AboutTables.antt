-- Names of entries, and what leads from a table to a valuation and back.
pub mod NameLemmas
pub mod FitLemmas
pub mod DecodedLemmas
pub mod ChosenLemmas
pub mod CellLemmas
pub mod SignatureLemmas
pub mod ExchangeLemmas
pub mod OrderLemmas
pub mod ModelLemmas
pub mod SolvedLemmas
