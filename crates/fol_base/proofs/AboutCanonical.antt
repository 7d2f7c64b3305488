-- The canonical form and its one walk.
pub mod CanonicalLemmas
pub mod NumberingLemmas
pub mod WalkLemmas
