-- Names and what is printed for them.
-- NameLemmas: names, and the words that spell them.
pub mod NameLemmas
-- FormulaNames: the printed name of a formula spells the name again.
pub mod FormulaNames
