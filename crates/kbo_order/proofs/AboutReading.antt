-- Reading two terms side by side: variables met, their balance, blocks of bits.
pub mod AnswerLemmas
pub mod BalanceLemmas
pub mod BitLemmas
pub mod BlockLemmas
pub mod MetLemmas
pub mod ReadingLemmas
pub mod FurtherLemmas
pub mod HeadLemmas
pub mod CoverLemmas
pub mod PartlyLemmas
pub mod OneWayLemmas
pub mod LevelLemmas
pub mod SideLemmas
