-- Whole sources: read exactly.
pub mod Begun
pub mod Complete
pub mod RunLemmas
pub mod Sound
pub mod SourceLemmas
pub mod SourceReads
pub mod TokenTests
pub mod WholeReads
