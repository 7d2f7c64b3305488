-- Tokens begin with one entry at most.
-- UniquePhrases: a list of tokens is that of at most one typed formula.
pub mod UniquePhrases
-- UniqueEntries: a list of tokens is that of at most one entry, with what follows it.
pub mod UniqueEntries
