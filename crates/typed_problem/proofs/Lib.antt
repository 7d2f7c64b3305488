-- A map of the proofs.
-- TypeLemmas: sorts and types that are the same, and the type of a symbol.
pub mod TypeLemmas
