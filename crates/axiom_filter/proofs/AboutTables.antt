pub mod SpreadLemmas
pub mod IndexLemmas
pub mod TriggerLemmas
pub mod MemberLemmas
pub mod WalkLemmas
