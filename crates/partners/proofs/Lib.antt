-- The trees of sites: IndexLemmas (entries), FewLemmas (how many sites a clause has).
-- The set: KnownLemmas (the map of members, what contracts see of it, and the candidates that the trees give).
-- Meetings: NamedLemmas (names that are tried one after another), TryLemmas (one candidate), NameLemmas (the names of candidates), MeetingLemmas (all of them).
pub mod IndexLemmas
pub mod FewLemmas
pub mod KnownLemmas
pub mod NamedLemmas
pub mod TryLemmas
pub mod NameLemmas
pub mod MeetingLemmas
