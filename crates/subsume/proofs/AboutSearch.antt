-- The search for a matcher of all literals.
pub mod BecomingLemmas
pub mod ChoosingLemmas
pub mod CountingLemmas
pub mod CrowdingLemmas
pub mod OnceLemmas
pub mod PlacingLemmas
pub mod SearchLemmas
pub mod SubsumingLemmas
pub mod ListLemmas
