-- Rewriting ends: a number falls.
pub mod RankLemmas
pub mod RankLists
pub mod TermLemmas
