-- Redexes as rewriting steps, with the kinds of terms, the laws, and the members that a unit rewrites.
pub mod KindLemmas
pub mod LawLemmas
pub mod RewritableLemmas
