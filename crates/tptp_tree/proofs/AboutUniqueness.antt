-- A text spells one thing at most.
-- UniqueAtoms: a list of tokens is that of at most one atom, with what follows it.
pub mod UniqueAtoms
-- UniqueLemmas: a list of tokens is that of at most one phrase.
pub mod UniqueLemmas
-- UniqueEntries: a list of tokens is that of at most one annotated formula, with what follows it, and of at most one list of entries.
pub mod UniqueEntries
