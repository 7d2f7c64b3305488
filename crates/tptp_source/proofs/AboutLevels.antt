-- How deep brackets are nested.
-- TokenLemmas: one token behind open brackets.
pub mod TokenLemmas
-- LimitLemmas: no token of a general term is too deep exactly where its levels are within the limit.
pub mod LimitLemmas
-- SourceLevels: a source has the levels of its term.
pub mod SourceLevels
