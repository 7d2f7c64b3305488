-- Texts as tokens.
pub mod CountLemmas
pub mod FillLemmas
pub mod FrontLemmas
pub mod PieceLemmas
pub mod TextTokenLemmas
