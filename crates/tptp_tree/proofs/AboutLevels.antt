-- How deep levels are nested.
-- LevelLemmas: what is written within so many levels is printed within twice as many.
pub mod LevelLemmas
-- LimitLemmas: no token of a phrase is too deep exactly where its levels are within the limit.
pub mod LimitLemmas
-- PrintedLevels: the levels of printed texts.
pub mod PrintedLevels
