-- Laws of histories: of every lawful history where nothing else is said.
use Rattle.std.specs.Prelude.{◌≡◌, ◌≢◌, ◌⊎◌, ℕ, ◌+◌, ◌*◌, ◌^◌, ◌<◌, ◌≤◌, Bool, true, false, not, ◌&&◌, ◌==◌, nat_lt, List, [], ◌∷◌, ◌++◌, map, length, take, Option, None, Some, is_some, slice_get, filter, find, All, AllPairs, Contains, IsTrue, IsFalse}
use lib.Pointwise.{pointwise}
use Rattle.std.specs.List.{list_any, list_all, range_with_len}
use Rattle.fol_base.specs.Clause.{TreeClause, clause_size}
use Rattle.fol_base.specs.Selection.{SelectionMode}
use Rattle.fol_base.specs.WellFormed.{SymbolUse}
use Rattle.kernel_steps.specs.Named.{IsInference}
use Rattle.kernel_steps.specs.Split.{has_number}
use Rattle.kernel_steps.specs.Sized.{IsSizedInference}
use Rattle.kernel_steps.specs.declared.key.Key.{Key}
use Rattle.kernel_steps.specs.declared.key.Key.TheVariants.{Replaced}
use Rattle.literal_selection.specs.Mode.{mode_of}
use Rattle.clause_queue.specs.Pick.{IsPick}
use Rattle.pool_history.specs.Record.{PoolRecord, Death, GivenJob, SolverJob, clauses_of, clause_numbered, given_job, has_died, lives, is_dead, waits, is_awake}
use Rattle.pool_history.specs.Claiming.{ready, next_choice, next_given}
use Rattle.pool_history.specs.Outcomes.{outcome_of}
use Rattle.pool_history.specs.Replay.{Origin, replay}
use Rattle.pool_history.specs.Lawful.{IsLawful, IsGivenOut}
use Rattle.pool_history.specs.Counting.{lines_of_fate}
use Rattle.pool_history.specs.Returning.{removals_of}
use Rattle.pool_history.specs.Solving.{handed}
use Rattle.pool_history.specs.Events.{job_of}
use Rattle.pool_history.specs.Inputs.{AreInputs, IsLimit, IsUseOf, IsRightBatch}
use Rattle.pool_history.specs.declared.options.Options.{Options}
use Rattle.pool_history.specs.declared.batch.Batch.{Batch}
use Rattle.pool_history.specs.declared.batch.Removal.{Removal}
use Rattle.pool_history.specs.declared.event.Event.{Event}
use Rattle.pool_history.specs.declared.event.Event.TheVariants.{Claim, Return, Stale, Void, ClaimSolve, ReturnModel, ReturnRefuted, Abandon}
use Rattle.pool_history.specs.declared.outcome.Outcome.{Outcome}
use Rattle.pool_history.specs.declared.outcome.Outcome.TheVariants.{Spent}

-- ---- claims

abbrev pub is_claim : Event → Bool
is_claim (Claim job) = true
is_claim e = false

abbrev pub is_abandon : Event → Bool
is_abandon (Abandon job) = true
is_abandon e = false

-- A registered clause that stays awake and alive, and has m older ones, is claimed within 6(m + 1) given claims, while no claim is given up:
-- it doesn't wait after them.
abbrev pub ClaimedInTime : Type 0
ClaimedInTime =
    (is_predicate : ℕ → Bool) (origin : Origin) (before later : List Event) (n : ℕ)
    → IsLawful is_predicate origin (before ++ later) → n < length (replay origin before).registered
    → ((k : ℕ) → IsTrue (lives (replay origin (before ++ take k later)) n && is_awake (replay origin (before ++ take k later)) n))
    → IsFalse (list_any is_abandon later) → 6 * (n + 1) ≤ length (filter is_claim later)
    → IsFalse (waits (replay origin (before ++ later)) n)

-- What is given next is what the queue's rule picks of the clauses that are ready.
abbrev pub PicksAreChosen : Type 0
PicksAreChosen =
    (r : PoolRecord) (n : ℕ)
    → next_given r ≡ Some n → IsPick (next_choice r) (map (λ k. (k, clause_size (clause_numbered r k))) (ready r)) n

-- a job is given, on a clause or to the solver
abbrev pub is_given : Event → Bool
is_given (Claim job) = true
is_given (ClaimSolve job) = true
is_given e = false

-- No job is given twice: the first one has the number 1, and each further one the next number.
abbrev pub JobsAreCounted : Type 0
JobsAreCounted =
    (is_predicate : ℕ → Bool) (origin : Origin) (history : List Event)
    → IsLawful is_predicate origin history
    → let given = filter is_given history in map job_of given ≡ range_with_len 1 (length given)

-- Each event is of a job that was given: so the next job is of none.
abbrev pub JobsWereGiven : Type 0
JobsWereGiven =
    (is_predicate : ℕ → Bool) (origin : Origin) (history : List Event)
    → IsLawful is_predicate origin history
    → All (λ e. (1 ≤ job_of e) × (job_of e ≤ (replay origin history).jobs)) history

-- An event ends a job where what the job was for comes back in it, or where the job is given up.
abbrev pub ends_job : ℕ → Event → Bool
ends_job job (Return batch) = batch.job == job
ends_job job (Void other) = other == job
ends_job job (ReturnModel other truths) = other == job
ends_job job (ReturnRefuted other log) = other == job
ends_job job (Abandon other) = other == job
ends_job job (Claim other) = false
ends_job job (Stale other justifier) = false
ends_job job (ClaimSolve other) = false

-- The job of a given clause stays out until an event ends it, on its clause and with its limit, be there a batch for it or not: so for every
-- list of events, lawful or not.
abbrev pub GivenJobsStayOut : Type 0
GivenJobsStayOut =
    (origin : Origin) (history later : List Event) (job : ℕ) (j : GivenJob)
    → given_job (replay origin history) job ≡ Some j → IsFalse (list_any (ends_job job) later)
    → IsGivenOut (replay origin (history ++ later)) job (λ k. (k.number ≡ j.number) × (k.left ≡ j.left))

-- So does the solver's, with the names and the clauses that it was handed: an answer that is right for it stays right.
abbrev pub SolverJobsStayOut : Type 0
SolverJobsStayOut =
    (is_predicate : ℕ → Bool) (origin : Origin) (history later : List Event) (s : SolverJob)
    → IsLawful is_predicate origin (history ++ later)
    → (replay origin history).solver ≡ Some s → IsFalse (list_any (ends_job s.job) later)
    → let r = replay origin (history ++ later) in (r.solver ≡ Some s) × (handed r s ≡ handed (replay origin history) s)

-- Once an event has ended a job, no job with its number is out again.
abbrev pub EndedJobsAreGone : Type 0
EndedJobsAreGone =
    (is_predicate : ℕ → Bool) (origin : Origin) (history : List Event) (job : ℕ)
    → IsLawful is_predicate origin history → IsTrue (list_any (ends_job job) history)
    → let r = replay origin history in
    (given_job r job ≡ None) × ((s : SolverJob) → r.solver ≡ Some s → s.job ≢ job)

-- No clause has two jobs that are out, and the clause of such a job isn't active. So a living clause either waits, or is out once, or is active.
abbrev pub OneJobAClause : Type 0
OneJobAClause =
    (is_predicate : ℕ → Bool) (origin : Origin) (history : List Event)
    → IsLawful is_predicate origin history
    → let r = replay origin history in
    AllPairs (λ (j k : GivenJob). j.number ≢ k.number) r.given
    × IsTrue (list_all (λ (j : GivenJob). not (has_number j.number r.active)) r.given)

-- ---- positions

-- A position that was given stays: so for every list of events, lawful or not.
abbrev pub PositionsStay : Type 0
PositionsStay =
    (origin : Origin) (history later : List Event)
    → (more : List ℕ) × ((replay origin (history ++ later)).positions ≡ (replay origin history).positions ++ more)

-- The numbers of clauses and their positions have 32 bits: an inference that is counted has a result of few parts.
abbrev pub NumbersFit : Type 0
NumbersFit =
    (usage : SymbolUse) (origin : Origin) (history : List Event)
    → AreInputs origin.inputs → IsLimit origin.options → IsUseOf origin.inputs usage → IsLawful usage.is_predicate origin history
    → let r = replay origin history in (length r.registered < 2 ^ 32) × (length r.positions ≤ length r.registered)

-- So do tags: a clause of few symbols has few parts.
abbrev pub TagsFit : Type 0
TagsFit =
    (usage : SymbolUse) (origin : Origin) (history : List Event)
    → AreInputs origin.inputs → IsLimit origin.options → IsUseOf origin.inputs usage → IsLawful usage.is_predicate origin history
    → length (replay origin history).parts < 2 ^ 32

-- ---- outcomes

-- Once an outcome stands it stays.
abbrev pub OutcomesStay : Type 0
OutcomesStay =
    (is_predicate : ℕ → Bool) (origin : Origin) (history later : List Event) (outcome : Outcome)
    → IsLawful is_predicate origin (history ++ later) → outcome_of (replay origin history) ≡ Some outcome
    → outcome_of (replay origin (history ++ later)) ≡ Some outcome

-- Once the pool is refuted or spent, nothing is registered or counted, no line is written, and no clause dies: so for every list of events,
-- lawful or not.
abbrev pub NothingComesAfter : Type 0
NothingComesAfter =
    (origin : Origin) (history later : List Event) (outcome : Outcome)
    → (replay origin history).ended ≡ Some outcome
    → let r = replay origin history in
    let s = replay origin (history ++ later) in
    (s.parts ≡ r.parts) × (s.registered ≡ r.registered) × (s.propositional ≡ r.propositional)
    × (s.lines ≡ r.lines) × (s.counted ≡ r.counted) × (s.deaths ≡ r.deaths)

-- Where an outcome stands that no event fixed, the pool is at rest: nothing is left to do, and no job is out. So no event follows.
abbrev pub NothingFollowsRest : Type 0
NothingFollowsRest =
    (is_predicate : ℕ → Bool) (origin : Origin) (history later : List Event) (outcome : Outcome)
    → IsLawful is_predicate origin (history ++ later)
    → (replay origin history).ended ≡ None → outcome_of (replay origin history) ≡ Some outcome → later ≡ []

-- ---- the count

-- Spent carries the length of the counted list, which has reached the limit: so for every list of events, lawful or not.
abbrev pub SpentIsTheCount : Type 0
SpentIsTheCount =
    (origin : Origin) (history : List Event) (count : ℕ)
    → (replay origin history).ended ≡ Some (Spent count)
    → (count ≡ length (replay origin history).counted) × (origin.options.inferences ≤ count)

-- the key names an inference of registered clauses, or a clause that was replaced, and so has died
abbrev pub IsCounted : (ℕ → Bool) → Options → PoolRecord → Key → Type 0
IsCounted is_predicate options r key =
    ((c : TreeClause) × IsInference is_predicate (mode_of options.select) (clauses_of r) key c)
    ⊎ ((n : ℕ) × (key ≡ Replaced n) × IsTrue (is_dead r n))

-- No key is counted twice.
abbrev pub CountedOnce : Type 0
CountedOnce =
    (is_predicate : ℕ → Bool) (origin : Origin) (history : List Event)
    → IsLawful is_predicate origin history
    → let r = replay origin history in
    AllPairs (λ k l. k ≢ l) r.counted × All (IsCounted is_predicate origin.options r) r.counted

-- the removal has the dead clause as its victim, and the justifiers of the death
abbrev pub is_removal_of : Death → Removal → Bool
is_removal_of d m = (m.victim == d.victim) && pointwise ◌==◌ m.justifiers d.justifiers

-- The clause died in the return of a batch, by a removal that this proposes. If the batch has several removals of that clause by those
-- justifiers, the first takes effect.
pub record IsProposedDeath (history : List Event) (d : Death) : Type 0 where
  pub batch : Batch
  pub returned : slice_get history d.event ≡ Some (Return batch)
  pub removal : Removal
  pub proposed : find (is_removal_of d) (removals_of batch.work) ≡ Some removal

-- the removal has a reduced result, which takes the place of the clause
pub record IsReducedDeath (history : List Event) (d : Death) : Type 0 where
  pub proposal : IsProposedDeath history d
  pub kept : IsTrue (is_some (lines_of_fate proposal.removal.fate))

-- A clause was counted as replaced exactly if it died so.
abbrev pub ReplacedWereReduced : Type 0
ReplacedWereReduced =
    (is_predicate : ℕ → Bool) (origin : Origin) (history : List Event) (n : ℕ)
    → IsLawful is_predicate origin history
    → let r = replay origin history in
    (Contains r.counted (Replaced n) → (d : Death) × Contains r.deaths d × (d.victim ≡ n) × IsReducedDeath history d)
    × ((d : Death) → Contains r.deaths d → d.victim ≡ n → IsReducedDeath history d → Contains r.counted (Replaced n))

-- ---- what is set aside

-- the key names an inference of registered clauses that is heavy
abbrev pub IsHeavyAmong : (ℕ → Bool) → Options → PoolRecord → Key → Type 0
IsHeavyAmong is_predicate options r key = (c : TreeClause) × IsSizedInference is_predicate (mode_of options.select) (clauses_of r) key c true

-- What was set aside was counted, and names a heavy inference.
abbrev pub SetAsideAreHeavy : Type 0
SetAsideAreHeavy =
    (is_predicate : ℕ → Bool) (origin : Origin) (history : List Event)
    → IsLawful is_predicate origin history
    → let r = replay origin history in
    All (λ key. Contains r.counted key × IsHeavyAmong is_predicate origin.options r key) r.set_aside

-- An inference is heavy or it isn't, whichever most general unifier shows it.
abbrev pub HeavyOrNot : Type 0
HeavyOrNot =
    (is_predicate : ℕ → Bool) (mode : SelectionMode) (clauses : ℕ → Option TreeClause) (key : Key) (c d : TreeClause) (heavy too : Bool)
    → IsSizedInference is_predicate mode clauses key c heavy → IsSizedInference is_predicate mode clauses key d too → heavy ≡ too

-- ---- deaths

-- Each clause that died was removed by a batch, and the justifiers of its death are those of the removal: so for every list of events, lawful
-- or not. In a lawful history the removal is right.
abbrev pub DeathsWereProposed : Type 0
DeathsWereProposed = (origin : Origin) (history : List Event) → All (IsProposedDeath history) (replay origin history).deaths

-- The victim didn't die before, its justifiers are other clauses, and none of them died before.
abbrev pub is_justified : List Death → Death → Bool
is_justified earlier d =
    not (has_died earlier d.victim) && list_all (λ n. not (n == d.victim) && not (has_died earlier n)) d.justifiers

abbrev pub are_justified : List Death → List Death → Bool
are_justified earlier [] = true
are_justified earlier (d ∷ ds) = is_justified earlier d && are_justified (earlier ++ d ∷ []) ds

-- The victim and its justifiers were registered and alive just before the event in which the victim died.
abbrev pub lived_before : Origin → List Event → Death → Bool
lived_before origin history d =
    nat_lt d.event (length history) && list_all (lives (replay origin (take d.event history))) (d.victim ∷ d.justifiers)

-- So a clause dies once, by other clauses alone, which lived then: they die later or never. Within one event deaths come in order.
abbrev pub DeathsAreJustified : Type 0
DeathsAreJustified =
    (is_predicate : ℕ → Bool) (origin : Origin) (history : List Event)
    → IsLawful is_predicate origin history
    → let r = replay origin history in
    IsTrue (are_justified [] r.deaths) × IsTrue (list_all (lived_before origin history) r.deaths)

-- ---- batches

-- A batch that is right for a job stays right through events of other jobs: so for every list of events, lawful or not.
abbrev pub BatchesStayRight : Type 0
BatchesStayRight =
    (origin : Origin) (history later : List Event) (batch : Batch)
    → IsRightBatch origin history batch → IsFalse (list_any (λ e. job_of e == batch.job) later)
    → IsRightBatch origin (history ++ later) batch
