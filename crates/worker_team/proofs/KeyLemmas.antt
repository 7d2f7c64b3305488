-- Keys of events: those that are new, those that are a worker's own, and jobs that are still out since no event of theirs came.
use Rattle.std.proofs.Common.{◌≡◌, ℕ, zero, suc, ◌+◌, ◌==◌, ◌≤◌, ◌<◌, ⊎_elim, inl, inr, Bool, true, false, ◌||◌, List, [], ◌∷◌, ◌++◌, length, get_or, refl, ap, ap₂, sym, ◌∙◌, subst, arith}
use Rattle.std.specs.Prelude.{Some, slice_get, All}
use Rattle.std.specs.List.{Contains, list_any}
use mathlib.Core.List.{IsPrefix}
use Rattle.std.proofs.lemmas.Bool.{eqb-true, true≢false}
use Rattle.std.proofs.lemmas.List.Elements.{Contains-append_left, Contains-append_right}
use Rattle.std.proofs.lemmas.Option.{none-some, same_Some, slice_get_within}
use Rattle.fol_base.specs.WellFormed.{SymbolUse}
use Rattle.turn_lock.specs.History.{AddsOwnKeys, AreAdded, IsOwnedKey, OwnsKeys}
use Rattle.turn_lock.proofs.Lists.{get_longer}
use Rattle.pool_history.specs.Record.{SolverJob}
use Rattle.pool_history.specs.Events.{job_of}
use Rattle.pool_history.specs.Inputs.{AreInputs, IsHistoryOf, IsRightBatch}
use Rattle.pool_history.specs.Laws.{ends_job}
use Rattle.pool_history.specs.Lawful.{IsGivenOut, IsLawful, IsOut, IsRightSolution, IsSolverOut}
use Rattle.pool_history.specs.Replay.{Origin, replay}
use Rattle.sat_core.specs.declared.answer.Answer.{Answer}
use Rattle.sat_core.specs.Answer.{IsRightAnswer}
use Rattle.pool_history.specs.Solving.{handed}
use Rattle.pool_history.specs.declared.batch.Batch.{Batch}
use Rattle.pool_history.specs.declared.event.Event.{Event}
use Rattle.pool_history.specs.declared.event.Event.TheVariants.{Claim, Return, Stale, Void, ClaimSolve, ReturnModel, ReturnRefuted, Abandon}
use Rattle.pool_history.proofs.AboutClaims.StayingLemmas.{batches_stay_right, given_jobs_stay_out}
use Rattle.pool_history.proofs.AboutClaims.SolverLemmas.{solver_jobs_stay_out}
use Rattle.worker_team.specs.Turns.{Adds, StandAt}
use Rattle.worker_team.specs.Passes.{HasJob, PoolPass}

-- ---- lists

-- none passes where each that passes is refuted
pub none-of : {X : Type 0} (p : X → Bool) (xs : List X) → ((k : ℕ) (x : X) → slice_get xs k ≡ Some x → p x ≡ true → ⊥) → list_any p xs ≡ false
none-of p [] none = refl
none-of p (x ∷ xs) none =
    ap₂ (λ a b. a || b) (by (p x) refl) (none-of p xs (λ k y at passes. none (suc k) y at passes))
  where
    by : (b : Bool) → p x ≡ b → p x ≡ false
    by true is = absurd (none 0 x refl is)
    by false is = is

-- what stands behind a list
pub get-later : {X : Type 0} (xs ys : List X) (k : ℕ) (y : X) → slice_get ys k ≡ Some y → slice_get (xs ++ ys) (length xs + k) ≡ Some y
get-later [] ys k y at = let same : k ≡ 0 + k = omega arith in subst (λ (n : ℕ). slice_get ys n ≡ Some y) same at
get-later (x ∷ xs) ys k y at =
    let same : suc (length xs + k) ≡ suc (length xs) + k = omega arith in
    subst (λ (n : ℕ). slice_get (x ∷ xs ++ ys) n ≡ Some y) same (get-later xs ys k y at)

-- an entry that is there
get-or-there : {X : Type 0} (xs : List X) (i : ℕ) (x : X) → slice_get xs i ≡ Some x → get_or xs i x ≡ x
get-or-there [] i x at = absurd (none-some x at)
get-or-there (y ∷ ys) zero x at = same_Some y x at
get-or-there (y ∷ ys) (suc i) x at = get-or-there ys i x at

-- the one entry that stands behind a list
pub last-only : {X : Type 0} (xs : List X) (x y : X) (j : ℕ) → length xs ≤ j → slice_get (xs ++ x ∷ []) j ≡ Some y → y ≡ x
last-only [] x y zero le at = sym (same_Some x y at)
last-only [] x y (suc j) le at = absurd (none-some y at)
last-only (z ∷ zs) x y zero le at = absurd (omega (arith, le))
last-only (z ∷ zs) x y (suc j) le at = last-only zs x y j (omega (arith, le)) at

-- ---- entries that are added

module _ (own : List ℕ) (history : List Event) where
  pub adds-none : AddsOwnKeys job_of history own history
  adds-none j b le at = let within : j < length history = slice_get_within history j b at in absurd (omega (arith, le, within))

  -- the event of a job with the next number
  pub adds-new : (jobs : ℕ) (e : Event) → All (λ f. (1 ≤ job_of f) × (job_of f ≤ jobs)) history → job_of e ≡ suc jobs → AddsOwnKeys job_of history own (history ++ e ∷ [])
  adds-new jobs e all next j b le at =
      inl λ i a there same.
      let is : job_of b ≡ suc jobs = ap job_of (last-only history e b j le at) ∙ next in
      let most : job_of a ≤ jobs =
      subst (λ (f : Event). job_of f ≤ jobs) (get-or-there history i a there) (all i a (slice_get_within history i a there)).1 in
      absurd (omega (arith, same, is, most))

  -- an event of a job whose claim stands at an owned place
  pub adds-owned : (e : Event) → IsOwnedKey job_of history own (job_of e) → AddsOwnKeys job_of history own (history ++ e ∷ [])
  adds-owned e owned j b le at = inr (subst (IsOwnedKey job_of history own) (sym (ap job_of (last-only history e b j le at))) owned)

-- an owned key stays owned in a longer history
pub owned-longer : (seen history : List Event) (own : List ℕ) (job : ℕ) → IsPrefix seen history → IsOwnedKey job_of seen own job → IsOwnedKey job_of history own job
owned-longer seen history own job begins owned =
    (owned.0, owned.1, owned.2, subst (λ h. slice_get h owned.0 ≡ Some owned.1) begins.1 (get_longer seen begins.0 owned.0 owned.1 owned.3), owned.4)

-- and after further turns of the worker
pub owned-after : (p q : PoolPass) (mine : List Event) (job : ℕ) → Adds p q mine → HasJob p job → HasJob q job
owned-after p q mine job adds owned =
    let longer = owned-longer p.seen q.seen p.own job adds.seen owned in (
      longer.0,
      longer.1,
      subst (λ places. Contains places longer.0) (sym adds.own) (Contains-append_left p.own adds.places longer.0 longer.2),
      longer.3,
      longer.4,
    )

-- an event that a turn added is one of the worker's own jobs
pub owned-added : (p q : PoolPass) (e : Event) → Adds p q (e ∷ []) → HasJob q (job_of e)
owned-added p q e adds = by adds.places adds.own adds.there
  where
    by : (places : List ℕ) → q.own ≡ p.own ++ places → StandAt q.seen (length p.seen) places (e ∷ []) → HasJob q (job_of e)
    by [] own there = absurd there
    by (place ∷ places) own there = (
      place,
      e,
      subst (λ ps. Contains ps place) (sym own) (Contains-append_right p.own (place ∷ places) place (0, omega arith, refl)),
      there.1,
      refl,
    )

-- ---- jobs that are still out

-- No event of the worker's own job came since its pass has seen the history.
pub none-came :
    (start seen later : List Event) (own : List ℕ) (job : ℕ)
    → AreAdded start seen own → OwnsKeys job_of (seen ++ later) own → IsOwnedKey job_of seen own job → list_any (λ e. job_of e == job) later ≡ false
none-came start seen later own job added keys owned =
    none-of (λ e. job_of e == job) later λ k e at same.
    let place : ℕ = length seen + k in
    let there = keys owned.0 place owned.1 e owned.2 (get_longer seen later owned.0 owned.1 owned.3) (get-later seen later k e at)
    (eqb-true (job_of e) job same ∙ sym owned.4) in
    let within : place < length seen = (added place there).1 in
    absurd (omega (arith, within))

-- so none ended it
ends-of : (job : ℕ) (e : Event) → ends_job job e ≡ true → (job_of e == job) ≡ true
ends-of job (Return batch) is = is
ends-of job (Void other) is = is
ends-of job (ReturnModel other truths) is = is
ends-of job (ReturnRefuted other chains) is = is
ends-of job (Abandon other) is = is
ends-of job (Claim other) is = absurd (true≢false (sym is))
ends-of job (Stale other justifier) is = absurd (true≢false (sym is))
ends-of job (ClaimSolve other) is = absurd (true≢false (sym is))

any-weaker :
    {X : Type 0} (p q : X → Bool) (xs : List X) → ((x : X) → p x ≡ true → q x ≡ true) → list_any q xs ≡ false → list_any p xs ≡ false
any-weaker p q xs weaker none =
    none-of p xs λ k x at passes. true≢false (sym (passes-at q xs k x at (weaker x passes)) ∙ none)
  where
    passes-at : {X : Type 0} (q : X → Bool) (xs : List X) (k : ℕ) (x : X) → slice_get xs k ≡ Some x → q x ≡ true → list_any q xs ≡ true
    passes-at q [] k x at passes = absurd (none-some x at)
    passes-at q (y ∷ ys) zero x at passes = ap (λ b. b || list_any q ys) (ap q (same_Some y x at) ∙ passes)
    passes-at q (y ∷ ys) (suc k) x at passes = by (q y) (passes-at q ys k x at passes)
      where
        by : (b : Bool) → list_any q ys ≡ true → (b || list_any q ys) ≡ true
        by true is = refl
        by false is = is

pub none-ended :
    (later : List Event) (job : ℕ) → list_any (λ e. job_of e == job) later ≡ false → list_any (ends_job job) later ≡ false
none-ended later job none = any-weaker (ends_job job) (λ e. job_of e == job) later (ends-of job) none

module _ (origin : Origin) (seen history : List Event) (begins : IsPrefix seen history) where
  -- a right batch of the job is right still
  pub right-still :
      (batch : Batch) → list_any (λ e. job_of e == batch.job) begins.0 ≡ false → IsRightBatch origin seen batch → IsRightBatch origin history batch
  right-still batch none right = subst (λ h. IsRightBatch origin h batch) begins.1 (batches_stay_right origin seen begins.0 batch right none)

  module _ (inputs : AreInputs origin.inputs) (lawful : IsHistoryOf origin history) where
    abbrev usage : SymbolUse
    usage = inputs.well_formed.usage

    solver-still :
        (s : SolverJob) → list_any (λ e. job_of e == s.job) begins.0 ≡ false → (replay origin seen).solver ≡ Some s
        → ((replay origin history).solver ≡ Some s) × (handed (replay origin history) s ≡ handed (replay origin seen) s)
    solver-still s none out =
        let stays = solver_jobs_stay_out usage.is_predicate origin seen begins.0 s
        (subst (λ (h : List Event). IsLawful usage.is_predicate origin h) (sym begins.1) (lawful usage inputs.well_formed.used)) out (none-ended begins.0 s.job none) in
        subst (λ h. ((replay origin h).solver ≡ Some s) × (handed (replay origin h) s ≡ handed (replay origin seen) s)) begins.1 stays

    -- a right answer for the solver's job is right still
    pub solution-still :
        (job : ℕ) (answer : Answer)
        → list_any (λ e. job_of e == job) begins.0 ≡ false → IsRightSolution (replay origin seen) job answer → IsRightSolution (replay origin history) job answer
    solution-still job answer none right =
        let s : SolverJob = right.solver in
        let stays = solver-still s (subst (λ (n : ℕ). list_any (λ e. job_of e == n) begins.0 ≡ false) (sym right.same) none) right.out in
        record {
          solver = s;
          out = stays.0;
          same = right.same;
          says = subst (λ cs. IsRightAnswer s.names cs answer) (sym stays.1) right.says;
        }

    -- a job that was out is out still
    pub out-still :
        (job : ℕ) → list_any (λ e. job_of e == job) begins.0 ≡ false → IsOut (replay origin seen) job → IsOut (replay origin history) job
    out-still job none out =
        ⊎_elim
        (λ (given : IsGivenOut (replay origin seen) job (λ j. Unit {0})).
        let stays = given_jobs_stay_out origin seen begins.0 job given.given given.out (none-ended begins.0 job none) in
        inl (subst (λ h. IsGivenOut (replay origin h) job (λ j. Unit {0})) begins.1 (record { given = stays.given; out = stays.out; says = tt })))
        (λ (solver : IsSolverOut (replay origin seen) job (λ s. Unit {0})).
        let stays = solver-still solver.solver (subst (λ (n : ℕ). list_any (λ e. job_of e == n) begins.0 ≡ false) (sym solver.same) none) solver.out in
        inr (record { solver = solver.solver; out = stays.0; same = solver.same; says = tt }))
        out
