-- What is printed spells again what some text spells.
-- CanonicalLemmas: the phrases that are printed for terms and formulas.
pub mod CanonicalLemmas
-- LexingLemmas: a printed text has the tokens of the phrase that is printed.
pub mod LexingLemmas
-- WellLemmas: what a text spells has names that can be printed.
pub mod WellLemmas
-- AgainLemmas: a printed text spells again what some text spells.
pub mod AgainLemmas
