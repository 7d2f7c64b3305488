-- What a record of the pool is, and what registering changes.
pub mod EditLemmas
pub mod EndWalkLemmas
pub mod FilterLemmas
pub mod FrameLemmas
pub mod GrowthLemmas
pub mod ItemLemmas
pub mod JobNumberLemmas
pub mod LivingLemmas
pub mod NewsLemmas
pub mod NumberLemmas
pub mod PlaceLemmas
pub mod StayLemmas
pub mod WalkLemmas
