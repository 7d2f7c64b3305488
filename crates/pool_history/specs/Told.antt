-- Laws of the clauses that jobs are told, for every list of events.
use Rattle.std.specs.Prelude.{◌≡◌, ℕ, ◌≤◌, Bool, not, List, length, take, filter, filter_map, Option, None, Some, Contains, IsTrue}
use Rattle.std.specs.List.{list_all}
use Rattle.fol_base.specs.Clause.{TreeClause}
use Rattle.kernel_steps.specs.Split.{has_number}
use Rattle.pool_history.specs.Record.{GivenJob, clauses_of, given_job, told_now}
use Rattle.pool_history.specs.Replay.{Origin, replay}
use Rattle.pool_history.specs.Lawful.{IsLawful}
use Rattle.pool_history.specs.News.{TreeChange, activated, died, news_since}
use Rattle.pool_history.specs.declared.event.Event.{Event}

abbrev pub activated_number : TreeChange → Option ℕ
activated_number (activated n c) = Some n
activated_number (died n) = None

abbrev pub died_number : TreeChange → Option ℕ
died_number (activated n c) = None
died_number (died n) = Some n

-- the clauses that changes activate, and those that died in them, in order
abbrev pub activated_numbers : List TreeChange → List ℕ
activated_numbers changes = filter_map activated_number changes

abbrev pub died_numbers : List TreeChange → List ℕ
died_numbers changes = filter_map died_number changes

-- The clauses that are told now are those that were activated and didn't die.
abbrev pub ToldAreNews : Type 0
ToldAreNews =
    (origin : Origin) (history : List Event)
    → let changes = news_since origin history 0 in
    told_now (replay origin history) ≡ filter (λ n. not (has_number n (died_numbers changes))) (activated_numbers changes)

-- A change that activates a clause tells the registered one.
abbrev pub NewsAreRegistered : Type 0
NewsAreRegistered =
    (origin : Origin) (history : List Event) (n : ℕ) (c : TreeClause)
    → Contains (news_since origin history 0) (activated n c) → clauses_of (replay origin history) n ≡ Some c

-- A job that is out has the clauses that were told after the first `as_of` events, however many events came since.
abbrev pub JobsWereTold : Type 0
JobsWereTold =
    (origin : Origin) (history : List Event) (job : ℕ) (j : GivenJob)
    → given_job (replay origin history) job ≡ Some j
    → (j.as_of ≤ length history) × (j.told ≡ told_now (replay origin (take j.as_of history)))

-- A job's own clause is among those that it was told.
abbrev pub GivenAreTold : Type 0
GivenAreTold =
    (is_predicate : ℕ → Bool) (origin : Origin) (history : List Event)
    → IsLawful is_predicate origin history
    → IsTrue (list_all (λ (j : GivenJob). has_number j.number j.told) (replay origin history).given)
