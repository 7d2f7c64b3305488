-- Clauses: what they say, rules on their literals, ground inferences.
pub mod ClauseLemmas
pub mod RuleLemmas
pub mod CountLemmas
pub mod AssertionLemmas
pub mod MeaningLemmas
pub mod InferenceLemmas
pub mod PlaceSums
