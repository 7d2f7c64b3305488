-- The bound on claims.
pub mod CountedClaims
pub mod JobLemmas
pub mod TimeLemmas
pub mod WaitLemmas
