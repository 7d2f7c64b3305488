-- Parts of a general term, read and made.
pub mod ItemLemmas
pub mod ItemReads
pub mod PartReads
pub mod PartTerms
pub mod FormulaTerms
