-- What a query visits and finds.
pub mod FoundLemmas
pub mod FrontLemmas
pub mod FirstLemmas
pub mod MatcherLemmas
pub mod ReadLemmas
pub mod TailLemmas
pub mod UnifierLemmas
pub mod VisitLemmas
