-- The tree of features.
pub mod EditLemmas
pub mod FeatureLemmas
pub mod MembersLemmas
pub mod NumberLemmas
pub mod PartedLemmas
pub mod PlaceSums
