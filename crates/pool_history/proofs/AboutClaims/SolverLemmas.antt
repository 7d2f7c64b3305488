-- The solver's job stays out until an event ends it, and the clauses that it was handed stay: propositional clauses only come.
use Rattle.std.proofs.Common.{◌≡◌, ℕ, ◌+◌, ◌≤◌, Bool, true, false, ◌==◌, List, [], ◌∷◌, ◌++◌, map, length, take, append-nil, refl, ap, sym, ◌∙◌, subst, arith}
use Rattle.std.specs.Prelude.{Option, None, Some, is_none, nat_lt, fold, if◌then◌else◌}
use Rattle.std.specs.List.{list_any}
use Rattle.std.proofs.lemmas.Bool.{true≢false, and_parts, or_parts, eqb-true, eq-eqb}
use Rattle.std.proofs.lemmas.List.{length-append, length-map, map-append, take-append-le}
use Rattle.std.proofs.lemmas.Option.{same_Some}
use Rattle.plain_types.specs.declared.sequence.NameLit.{NameLit}
use Rattle.kernel_steps.specs.Split.{has_number}
use Rattle.sat_core.specs.declared.answer.Answer.{Answer}
use Rattle.sat_core.specs.declared.answer.Answer.TheVariants.{Model, Refuted}
use Rattle.sat_core.specs.declared.answer.Chain as log
use Rattle.pool_history.specs.Record.{PoolRecord, GivenJob, SolverJob, PropositionalClause, given_job, without_job, nothing_registered}
use Rattle.pool_history.specs.Claiming.{next_given, given_out, claimed_by}
use Rattle.pool_history.specs.Returning.{becomes_active, worked, returns_to}
use Rattle.pool_history.specs.Solving.{handed, modelled_by, refuted_by}
use Rattle.pool_history.specs.Replay.{without_solver, after, start, replay}
use Rattle.pool_history.specs.Lawful.{IsAllowed, IsLawfulFrom, IsRightSolution}
use Rattle.pool_history.specs.Laws.{ends_job, SolverJobsStayOut}
use Rattle.pool_history.specs.declared.options.Options.{Options}
use Rattle.pool_history.specs.declared.batch.Batch.{Batch}
use Rattle.pool_history.specs.declared.batch.Work.{Work}
use Rattle.pool_history.specs.declared.batch.Work.TheVariants.{Gone, Met}
use Rattle.pool_history.specs.declared.event.Event.{Event}
use Rattle.pool_history.specs.declared.event.Event.TheVariants.{Claim, Return, Stale, Void, ClaimSolve, ReturnModel, ReturnRefuted, Abandon}
use Rattle.pool_history.proofs.AboutClaims.HistoryLemmas.{later-append, lawful-append}
use Rattle.pool_history.proofs.AboutRecords.FrameLemmas.{by-if, inputs-register}
use Rattle.pool_history.proofs.AboutRecords.GrowthLemmas.{more-then, removed-grows, met-grows}
use Rattle.pool_history.proofs.AboutRecords.JobNumberLemmas.{returned-solver, claimed-solver}

module _ (options : Options) where
  -- ---- propositional clauses only come

  abbrev pub MoreNames : PoolRecord → PoolRecord → Type 0
  MoreNames r s = (ps : List PropositionalClause) × (s.propositional ≡ r.propositional ++ ps)

  pub same-names : (r s : PoolRecord) → s.propositional ≡ r.propositional → MoreNames r s
  same-names r s same = ([], same ∙ sym (append-nil r.propositional))

  pub claimed-names : (job : ℕ) (o : Option ℕ) (r : PoolRecord) → MoreNames r (claimed_by options job o r)
  claimed-names job None r = same-names r r refl
  claimed-names job (Some n) r =
      by-if (λ s. MoreNames r (given_out options job n s)) (has_number n r.positions) r (record r { positions = r.positions ++ n ∷ [] })
      (same-names r r refl) (same-names r r refl)

  pub returned-names : (batch : Batch) (o : Option GivenJob) (r : PoolRecord) → MoreNames r (returns_to options batch o r)
  returned-names batch None r = same-names r r refl
  returned-names batch (Some j) r =
      let s : PoolRecord = record r { given = without_job batch.job r.given } in
      by-if (MoreNames r) (is_none r.ended) (worked options j.number batch.work s) (becomes_active j.number s) (by s batch.work) (same-names r r refl)
    where
      by : (s : PoolRecord) (work : Work) → MoreNames s (worked options j.number work s)
      by s (Gone m) = (removed-grows options m s).names
      by s (Met entries removals) = (met-grows options j.number entries removals s).names

  modelled-names : (o : Option SolverJob) (truths : List Bool) (r : PoolRecord) → MoreNames r (modelled_by o truths r)
  modelled-names None truths r = same-names r r refl
  modelled-names (Some s) truths r = same-names r r refl

  refuted-names : (o : Option SolverJob) (chains : List log.Chain) (r : PoolRecord) → MoreNames r (refuted_by o chains r)
  refuted-names None chains r = same-names r r refl
  refuted-names (Some s) chains r = by-if (MoreNames r) (is_none r.ended) _ _ (same-names r r refl) (same-names r r refl)

  pub after-names : (r : PoolRecord) (e : Event) → MoreNames r (after options r e)
  after-names r (Claim job) = claimed-names job (next_given r) r
  after-names r (Return batch) = returned-names batch (given_job r batch.job) r
  after-names r (Stale job justifier) = same-names r r refl
  after-names r (Void job) = same-names r r refl
  after-names r (ClaimSolve job) = same-names r r refl
  after-names r (ReturnModel job truths) = modelled-names r.solver truths r
  after-names r (ReturnRefuted job chains) = refuted-names r.solver chains r
  after-names r (Abandon job) = same-names r r refl

  pub history-names : (es : List Event) (r : PoolRecord) → MoreNames r (fold (after options) r es)
  history-names [] r = same-names r r refl
  history-names (e ∷ es) r =
      more-then r.propositional (after options r e).propositional (fold (after options) r (e ∷ es)).propositional (after-names r e)
      (history-names es (after options r e))

module _ (is_predicate : ℕ → Bool) (options : Options) where
  -- ---- a job was handed clauses that are there

  abbrev pub Within : ℕ → Option SolverJob → Type 0
  Within count None = Unit {0}
  Within count (Some s) = s.clauses ≤ count

  abbrev pub IsWithin : PoolRecord → Type 0
  IsWithin r = Within (length r.propositional) r.solver

  more-within : (r s : PoolRecord) → MoreNames options r s → (o : Option SolverJob) → Within (length r.propositional) o → Within (length s.propositional) o
  more-within r s more None within = tt
  more-within r s more (Some j) within =
      let long : length s.propositional ≡ length r.propositional + length more.0 = ap length more.1 ∙ length-append r.propositional more.0 in
      omega (arith, long, within)

  kept-within : (r s : PoolRecord) → MoreNames options r s → s.solver ≡ r.solver → IsWithin r → IsWithin s
  kept-within r s more same within = subst (Within (length s.propositional)) (sym same) (more-within r s more r.solver within)

  modelled-within : (o : Option SolverJob) (truths : List Bool) (r : PoolRecord) → IsWithin r → IsWithin (modelled_by o truths r)
  modelled-within None truths r within = within
  modelled-within (Some s) truths r within = tt

  refuted-within : (o : Option SolverJob) (chains : List log.Chain) (r : PoolRecord) → IsWithin r → IsWithin (refuted_by o chains r)
  refuted-within None chains r within = within
  refuted-within (Some s) chains r within = by-if IsWithin (is_none r.ended) _ _ tt tt

  without-within : (job count : ℕ) (o : Option SolverJob) → Within count o → Within count (without_solver job o)
  without-within job count None within = tt
  without-within job count (Some s) within = by-if (Within count) (s.job == job) None (Some s) tt within

  pub after-within : (r : PoolRecord) (e : Event) → IsWithin r → IsWithin (after options r e)
  after-within r (Claim job) within =
      kept-within r (after options r (Claim job)) (after-names options r (Claim job)) (claimed-solver is_predicate options job (next_given r) r) within
  after-within r (Return batch) within =
      kept-within r (after options r (Return batch)) (after-names options r (Return batch)) (returned-solver is_predicate options batch (given_job r batch.job) r) within
  after-within r (Stale job justifier) within = within
  after-within r (Void job) within = within
  after-within r (ClaimSolve job) within = let same : length r.propositional ≤ length r.propositional = omega arith in same
  after-within r (ReturnModel job truths) within = modelled-within r.solver truths r within
  after-within r (ReturnRefuted job chains) within = refuted-within r.solver chains r within
  after-within r (Abandon job) within = without-within job (length r.propositional) r.solver within

  pub history-within : (es : List Event) (r : PoolRecord) → IsWithin r → IsWithin (fold (after options) r es)
  history-within [] r within = within
  history-within (e ∷ es) r within = history-within es (after options r e) (after-within r e within)

  -- so it stays what it was
  pub handed-same : (r t : PoolRecord) (s : SolverJob) → MoreNames options r t → s.clauses ≤ length r.propositional → handed t s ≡ handed r s
  handed-same r t s more within =
      let names : PropositionalClause → List NameLit = λ c. c.names in
      let long = length-map r.propositional names in
      ap (λ (ps : List PropositionalClause). take s.clauses (map names ps)) more.1
      ∙ ap (take s.clauses) (map-append names r.propositional more.0)
      ∙ take-append-le s.clauses (map names r.propositional) (map names more.0) (omega (arith, long, within))

  -- ---- the job

  module _ (s : SolverJob) where
    abbrev IsThis : PoolRecord → Type 0
    IsThis r = r.solver ≡ Some s

    -- another answer than its own isn't right
    no-other : (r : PoolRecord) (job : ℕ) (answer : Answer) → (job == s.job) ≡ false → IsThis r → IsRightSolution r job answer → ⊥
    no-other r job answer differ out right =
        let same : s ≡ right.solver = same_Some s right.solver (sym out ∙ right.out) in
        true≢false (sym (eq-eqb job s.job (sym right.same ∙ ap (λ (j : SolverJob). j.job) (sym same))) ∙ differ)

    kept-without : (job : ℕ) → (job == s.job) ≡ false → without_solver job (Some s) ≡ Some s
    kept-without job differ = by (s.job == job) refl
      where
        by : (b : Bool) → (s.job == job) ≡ b → (if b then None else Some s) ≡ Some s
        by true is = absurd (true≢false (sym (eq-eqb job s.job (sym (eqb-true s.job job is))) ∙ differ))
        by false is = refl

    after-this : (r : PoolRecord) (e : Event) → IsAllowed is_predicate options r e → ends_job s.job e ≡ false → IsThis r → IsThis (after options r e)
    after-this r (Claim job) allowed differ out = claimed-solver is_predicate options job (next_given r) r ∙ out
    after-this r (Return batch) allowed differ out = returned-solver is_predicate options batch (given_job r batch.job) r ∙ out
    after-this r (Stale job justifier) allowed differ out = out
    after-this r (Void job) allowed differ out = out
    after-this r (ClaimSolve job) allowed differ out =
        absurd
        (true≢false
        (sym (and_parts (nat_lt r.modelled (length r.propositional)) (is_none r.solver) allowed.1).1 ∙ ap (λ (o : Option SolverJob). is_none o) out))
    after-this r (ReturnModel job truths) allowed differ out = absurd (no-other r job (Model truths) differ out allowed)
    after-this r (ReturnRefuted job chains) allowed differ out = absurd (no-other r job (Refuted chains) differ out allowed)
    after-this r (Abandon job) allowed differ out = ap (without_solver job) out ∙ kept-without job differ

    later-this :
        (es : List Event) (r : PoolRecord)
        → IsLawfulFrom is_predicate options r es → list_any (ends_job s.job) es ≡ false → IsThis r → IsThis (fold (after options) r es)
    later-this [] r lawful none out = out
    later-this (e ∷ es) r lawful none out =
        let parts = or_parts (ends_job s.job e) (list_any (ends_job s.job) es) none in
        later-this es (after options r e) lawful.1 parts.1 (after-this r e lawful.0 parts.0 out)

-- ---- the law

pub solver_jobs_stay_out : SolverJobsStayOut
solver_jobs_stay_out is_predicate origin history later s lawful out none =
    subst (λ (t : PoolRecord). (t.solver ≡ Some s) × (handed t s ≡ handed r s)) (sym (later-append origin.options history later (start origin))) (
      later-this is_predicate origin.options s later r (lawful-append is_predicate origin.options history later (start origin) lawful).1 none out,
      handed-same is_predicate origin.options r (fold (after origin.options) r later) s (history-names origin.options later r) within,
    )
  where
    r : PoolRecord
    r = replay origin history

    begun : IsWithin is_predicate origin.options (start origin)
    begun =
        subst (Within is_predicate origin.options (length (start origin).propositional))
        (sym (ap (λ (t : PoolRecord). t.solver) (inputs-register origin.options.split 0 origin.inputs nothing_registered).same)) tt

    within : s.clauses ≤ length r.propositional
    within = subst (Within is_predicate origin.options (length r.propositional)) out (history-within is_predicate origin.options history (start origin) begun)
