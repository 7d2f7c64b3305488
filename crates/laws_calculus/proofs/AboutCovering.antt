-- What is covered, reached and closed.
pub mod ClauseLemmas
pub mod ClosureLemmas
pub mod CoverLemmas
pub mod EachLemmas
pub mod MoveLemmas
pub mod OnGroundLemmas
pub mod ReachLemmas
pub mod RewriteLemmas
pub mod SymbolLemmas
