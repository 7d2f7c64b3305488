-- Literals that leave a clause.
pub mod CanonLemmas
pub mod DroppingLemmas
pub mod LeavingLemmas
pub mod MoveLemmas
pub mod RemovalLemmas
