-- Trees of terms: variables, kinds, equality.
pub mod TermLemmas
pub mod TreeLemmas
pub mod KindLemmas
pub mod VariableLemmas
pub mod EqualityLemmas
pub mod WellFormedLemmas
