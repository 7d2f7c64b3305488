-- Literals and clauses as multisets, their loops.
pub mod MultisetLemmas
pub mod MemberLemmas
pub mod LiteralLemmas
pub mod ClauseLoops
pub mod PartLemmas
