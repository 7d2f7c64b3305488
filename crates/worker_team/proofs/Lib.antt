-- A map of the proofs.
-- What passes add, one turn after another: TurnLemmas.
mod TurnLemmas
-- Keys of events that are new or the worker's own, and jobs that are still out: KeyLemmas.
mod KeyLemmas
-- A claim in a turn: ClaimLemmas. What its answer leaves: ClaimedLemmas.
mod ClaimLemmas
mod ClaimedLemmas
-- What is brought back in a turn: BackLemmas.
mod BackLemmas
-- A job from its claim to its end: JobLemmas and, for the tries and the ends of jobs, TryLemmas.
mod JobLemmas
mod TryLemmas
-- A turn as a whole: EndLemmas.
mod EndLemmas
-- Turns of a worker, passes that are cut, and workers of a team: TeamLemmas.
mod TeamLemmas
-- What the threads of a team share, and what each has for itself: SendLemmas.
mod SendLemmas
-- Models of the first propositional clauses: SolvingLemmas.
mod SolvingLemmas
-- How pools end (OutcomeLemmas), and one from its beginning to its end (ProvedLemmas).
pub mod OutcomeLemmas
mod ProvedLemmas
