-- The lines of an accepted text, their ground list, and forms without variables.
pub mod DecideLemmas
pub mod DecideOne
pub mod GroundOne
pub mod LineLemmas
pub mod ListLemmas
pub mod ListingLemmas
