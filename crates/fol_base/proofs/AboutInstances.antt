-- Instances, their sizes and places, ground instances and what they cover.
pub mod InstanceLemmas
pub mod InstanceSizes
pub mod Shuffled
pub mod InstancePlaces
pub mod ConversePlaces
pub mod PlaceLemmas
pub mod GroundInstanceLemmas
pub mod CoverageLemmas
