-- Outcomes stay: what ended stays ended, and where nothing is left to do no event is allowed.
use Rattle.std.proofs.Common.{◌≡◌, ℕ, ◌+◌, Bool, false, not, ◌&&◌, ◌==◌, List, [], ◌∷◌, ◌++◌, length, refl, ap, sym, ◌∙◌, subst, inl, inr, arith}
use Rattle.std.specs.Prelude.{Option, None, Some, is_none, is_some, find, position, if◌then◌else◌}
use Rattle.std.proofs.lemmas.Bool.{true≢false, and_parts, eqb-true, cond-false, not-true}
use Rattle.std.proofs.lemmas.Option.{none-some, cond_some}
use Rattle.kernel_steps.specs.Split.{has_number}
use Rattle.sat_core.specs.declared.answer.Chain as log
use Rattle.pool_history.specs.Record.{PoolRecord, GivenJob, SolverJob, given_job, jobs_out, without_job}
use Rattle.pool_history.specs.Claiming.{next_given, can_give, given_out, claimed_by}
use Rattle.pool_history.specs.Returning.{worked, becomes_active, returns_to}
use Rattle.pool_history.specs.Solving.{must_solve, modelled_by, refuted_by}
use Rattle.pool_history.specs.Outcomes.{is_at_rest, is_of_living, heavy_or_saturated, outcome_by, outcome_of}
use Rattle.pool_history.specs.Replay.{after, start, replay}
use Rattle.pool_history.specs.Lawful.{IsAllowed, IsLawfulFrom}
use Rattle.pool_history.specs.Laws.{NothingFollowsRest, OutcomesStay}
use Rattle.pool_history.specs.declared.options.Options.{Options}
use Rattle.pool_history.specs.declared.batch.Batch.{Batch}
use Rattle.pool_history.specs.declared.outcome.Outcome.{Outcome}
use Rattle.pool_history.specs.declared.event.Event.{Event}
use Rattle.pool_history.specs.declared.event.Event.TheVariants.{Claim, Return, Stale, Void, ClaimSolve, ReturnModel, ReturnRefuted, Abandon}
use Rattle.pool_history.proofs.AboutRecords.FrameLemmas.{by-if}
use Rattle.pool_history.proofs.AboutClaims.HistoryLemmas.{later_of, later-append, lawful-append}

module _ (is_predicate : ℕ → Bool) (options : Options) (outcome : Outcome) where
  -- ---- what ended

  abbrev Ended : PoolRecord → Type 0
  Ended r = r.ended ≡ Some outcome

  claimed-ended : (job : ℕ) (o : Option ℕ) (r : PoolRecord) → Ended r → Ended (claimed_by options job o r)
  claimed-ended job None r ended = ended
  claimed-ended job (Some n) r ended =
      by-if (λ s. Ended (given_out options job n s)) (has_number n r.positions) r (record r { positions = r.positions ++ n ∷ [] }) ended ended

  returned-ended : (batch : Batch) (o : Option GivenJob) (r : PoolRecord) → Ended r → Ended (returns_to options batch o r)
  returned-ended batch None r ended = ended
  returned-ended batch (Some j) r ended =
      let s : PoolRecord = record r { given = without_job batch.job r.given } in
      subst Ended (sym (cond-false (is_none r.ended) (worked options j.number batch.work s) (becomes_active j.number s) (ap is_none ended))) ended

  modelled-ended : (o : Option SolverJob) (truths : List Bool) (r : PoolRecord) → Ended r → Ended (modelled_by o truths r)
  modelled-ended None truths r ended = ended
  modelled-ended (Some s) truths r ended = ended

  refuted-ended : (o : Option SolverJob) (chains : List log.Chain) (r : PoolRecord) → Ended r → Ended (refuted_by o chains r)
  refuted-ended None chains r ended = ended
  refuted-ended (Some s) chains r ended = subst Ended (sym (cond-false (is_none r.ended) _ (record r { solver = None }) (ap is_none ended))) ended

  after-ended : (r : PoolRecord) (e : Event) → Ended r → Ended (after options r e)
  after-ended r (Claim job) ended = claimed-ended job (next_given r) r ended
  after-ended r (Return batch) ended = returned-ended batch (given_job r batch.job) r ended
  after-ended r (Stale job justifier) ended = ended
  after-ended r (Void job) ended = ended
  after-ended r (ClaimSolve job) ended = ended
  after-ended r (ReturnModel job truths) ended = modelled-ended r.solver truths r ended
  after-ended r (ReturnRefuted job chains) ended = refuted-ended r.solver chains r ended
  after-ended r (Abandon job) ended = ended

  -- ---- what is at rest

  record IsResting (r : PoolRecord) : Type 0 where
    pub solved : must_solve r ≡ false
    pub nothing : can_give r ≡ false
    pub no_job : (job : ℕ) (j : GivenJob) → given_job r job ≡ Some j → ⊥
    pub no_solver : r.solver ≡ None

  no-given : (js : List GivenJob) (k job : ℕ) (j : GivenJob) → length js + k ≡ 0 → find (λ (i : GivenJob). i.job == job) js ≡ Some j → ⊥
  no-given [] k job j none found = none-some j found
  no-given (i ∷ is) k job j none found = absurd (omega (arith, none))

  no-solver-out : (o : Option SolverJob) (k : ℕ) → k + (if is_some o then 1 else 0) ≡ 0 → o ≡ None
  no-solver-out None k none = refl
  no-solver-out (Some s) k none = absurd (omega (arith, none))

  resting : (r : PoolRecord) → r.ended ≡ None → outcome_of r ≡ Some outcome → IsResting r
  resting r is_open stands =
      let rests = (cond_some (is_at_rest r) (heavy_or_saturated (position (is_of_living r) r.set_aside)) outcome (ap (λ o. outcome_by o r) (sym is_open) ∙ stands)).0 in
      let first = and_parts (not (must_solve r)) (not (can_give r) && (jobs_out r == 0)) rests in
      let rest = and_parts (not (can_give r)) (jobs_out r == 0) first.1 in
      let none : jobs_out r ≡ 0 = eqb-true (jobs_out r) 0 rest.1 in
      record {
        solved = not-true (must_solve r) first.0;
        nothing = not-true (can_give r) rest.0;
        no_job = λ job j found. no-given r.given (if is_some r.solver then 1 else 0) job j none found;
        no_solver = no-solver-out r.solver (length r.given) none;
      }

  no-event : (r : PoolRecord) (e : Event) → IsResting r → IsAllowed is_predicate options r e → ⊥
  no-event r (Claim job) rests allowed = true≢false (sym allowed.2 ∙ rests.nothing)
  no-event r (Return batch) rests allowed = rests.no_job batch.job allowed.given allowed.out
  no-event r (Stale job justifier) rests allowed = rests.no_job job allowed.given allowed.out
  no-event r (Void job) rests allowed = rests.no_job job allowed.given allowed.out
  no-event r (ClaimSolve job) rests allowed = true≢false (sym allowed.1 ∙ rests.solved)
  no-event r (ReturnModel job truths) rests allowed = none-some allowed.solver (sym rests.no_solver ∙ allowed.out)
  no-event r (ReturnRefuted job chains) rests allowed = none-some allowed.solver (sym rests.no_solver ∙ allowed.out)
  no-event r (Abandon job) rests (inl given) = rests.no_job job given.given given.out
  no-event r (Abandon job) rests (inr solver) = none-some solver.solver (sym rests.no_solver ∙ solver.out)

  -- ---- later

  ended-stays : (es : List Event) (r : PoolRecord) → Ended r → Ended (later_of options r es)
  ended-stays [] r ended = ended
  ended-stays (e ∷ es) r ended = ended-stays es (after options r e) (after-ended r e ended)

  pub outcome-stays :
      (es : List Event) (r : PoolRecord)
      → IsLawfulFrom is_predicate options r es → outcome_of r ≡ Some outcome → outcome_of (later_of options r es) ≡ Some outcome
  outcome-stays [] r lawful stands = stands
  outcome-stays (e ∷ es) r lawful stands = by r.ended refl
    where
      by : (o : Option Outcome) → r.ended ≡ o → outcome_of (later_of options r (e ∷ es)) ≡ Some outcome
      by None is_open = absurd (no-event r e (resting r is_open stands) lawful.0)
      by (Some p) is =
          ap (λ o. outcome_by o (later_of options r (e ∷ es)))
          (ended-stays (e ∷ es) r (is ∙ ap (λ o. outcome_by o r) (sym is) ∙ stands))

pub outcomes_stay : OutcomesStay
outcomes_stay is_predicate origin history later outcome lawful stands =
    ap outcome_of (later-append origin.options history later (start origin))
    ∙ outcome-stays is_predicate origin.options outcome later (later_of origin.options (start origin) history)
    (lawful-append is_predicate origin.options history later (start origin) lawful).1 stands

pub nothing_follows_rest : NothingFollowsRest
nothing_follows_rest is_predicate origin history later outcome lawful is_open stands =
    by later (lawful-append is_predicate origin.options history later (start origin) lawful).1
  where
    r : PoolRecord
    r = replay origin history

    by : (es : List Event) → IsLawfulFrom is_predicate origin.options r es → es ≡ []
    by [] lawful = refl
    by (e ∷ es) lawful =
        absurd (no-event is_predicate origin.options outcome r e (resting is_predicate origin.options outcome r is_open stands) lawful.0)
