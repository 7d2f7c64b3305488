-- Reading on from file to file, and how it ends.
pub mod AnnotatedLemmas
pub mod AwaitLemmas
pub mod IncludeTokens
pub mod ClosedLemmas
pub mod ConjectureLemmas
pub mod FaultLemmas
pub mod OnwardLemmas
pub mod OutcomeLemmas
pub mod EntryOutcomes
pub mod ReadLemmas
pub mod SpelledLemmas
pub mod LevelLemmas
