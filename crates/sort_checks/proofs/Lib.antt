-- A map of the proofs, by topic; what is proved of one function stands in the folder of its module.
-- CauseLemmas: causes one after another.
pub mod CauseLemmas
-- PushLemmas: the causes that are pushed for a declaration, a term and a formula.
pub mod PushLemmas
-- ScopeLemmas: the variables in force.
pub mod ScopeLemmas
-- TableLemmas: the table of the words that a problem declares.
pub mod TableLemmas
-- LookupLemmas: what the table tells of a word.
pub mod LookupLemmas
-- FaultLemmas: the first fault among entries.
pub mod FaultLemmas
-- AgreeLemmas: causes depend on what each word is declared as alone.
pub mod AgreeLemmas
-- SortedLemmas: a problem whose entries are without fault lists each word once.
pub mod SortedLemmas
-- EntryLemmas: where nothing is at fault the problem is sorted.
pub mod EntryLemmas
