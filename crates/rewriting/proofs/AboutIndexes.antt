-- Units by their numbers, and the sides by which they are found.
pub mod NumberedLemmas
pub mod IndexLemmas
pub mod UnitLemmas
