-- One lexeme: kinds, words, quotes, numbers.
pub mod KindLemmas
pub mod LexemeLemmas
pub mod LongestLemmas
pub mod NumberLemmas
pub mod QuoteLemmas
pub mod SignLemmas
pub mod TestLemmas
pub mod WordLemmas
