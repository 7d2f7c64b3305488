-- A map of the lemmas, by topic.
-- AboutDemands: what demands demand, and the truth of what is demanded.
pub mod AboutDemands
pub mod AboutRefuting
pub mod AboutListing
