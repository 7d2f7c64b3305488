-- What stands for a bound variable, in order.
pub mod BindingsLemmas
pub mod BoundTermLemmas
pub mod CoverLemmas
pub mod ListLemmas
pub mod OccurringLemmas
pub mod OrderLemmas
pub mod PlaceLemmas
pub mod TermLemmas
