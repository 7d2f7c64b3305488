-- The causes of outcomes.
use Rattle.std.specs.Prelude.{◌≡◌, ◌≤◌, List, length, position, None, Some, IsTrue}
use Rattle.pool_history.specs.Record.{PoolRecord}
use Rattle.pool_history.specs.Outcomes.{is_at_rest, is_of_living, outcome_of}
use Rattle.pool_history.specs.Replay.{Origin, replay}
use Rattle.pool_history.specs.declared.options.Options.{Options}
use Rattle.pool_history.specs.declared.event.Event.{Event}
use Rattle.pool_history.specs.declared.outcome.Outcome.{Outcome}
use Rattle.pool_history.specs.declared.outcome.Outcome.TheVariants.{Refuted, Saturated, Spent, Heavy}

-- What an outcome tells of the record: it was refuted; so many inferences were counted, which are at least the limit; or nothing is left to
-- do, and the place is that of the first inference of living awake clauses that was set aside, or there is none.
abbrev pub HasCause : Options → PoolRecord → Outcome → Type 0
HasCause options r Refuted = r.ended ≡ Some Refuted
HasCause options r (Spent count) = (count ≡ length r.counted) × (options.inferences ≤ count)
HasCause options r (Heavy place) = IsTrue (is_at_rest r) × (position (is_of_living r) r.set_aside ≡ Some place)
HasCause options r Saturated = IsTrue (is_at_rest r) × (position (is_of_living r) r.set_aside ≡ None)

-- Each outcome has its cause, for every list of events, lawful or not.
abbrev pub OutcomesHaveCauses : Type 0
OutcomesHaveCauses =
    (origin : Origin) (history : List Event) (outcome : Outcome)
    → outcome_of (replay origin history) ≡ Some outcome → HasCause origin.options (replay origin history) outcome
