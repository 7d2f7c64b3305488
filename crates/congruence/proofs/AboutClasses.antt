-- Signatures, gaps, and classes that join no more than the equations ask.
pub mod PlaceLemmas
pub mod KeyLemmas
pub mod FirstLemmas
pub mod SoundLemmas
pub mod GapLemmas
pub mod LoweredLemmas
