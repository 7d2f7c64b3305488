-- Texts and pages of a report, and the names in them.
pub mod NameLemmas
pub mod PageLemmas
