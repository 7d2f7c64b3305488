pub mod RestrictionLemmas
