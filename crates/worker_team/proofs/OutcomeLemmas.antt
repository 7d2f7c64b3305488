-- How pools end: events make them refuted or spent, and no other outcome is kept.
use Rattle.std.proofs.Common.{◌≡◌, ◌≤◌, ℕ, Bool, true, List, [], ◌∷◌, ◌++◌, length, refl, ap, sym, ◌∙◌, subst, ⊎_elim}
use Rattle.std.specs.Prelude.{⊤, Option, None, Some, nat_le, is_none, fold, find, position}
use Rattle.std.proofs.lemmas.Option.{same_Some, cond_some}
use Rattle.kernel_steps.specs.Split.{has_number}
use Rattle.kernel_steps.specs.declared.key.Key.{Key}
use Rattle.kernel_steps.specs.declared.key.Key.TheVariants.{Replaced}
use Rattle.kernel_steps.specs.declared.step.Line.{Line}
use Rattle.sat_core.specs.declared.answer.Chain as log
use Rattle.pool_history.specs.Record.{PoolRecord, GivenJob, SolverJob, given_job, without_job, nothing_registered}
use Rattle.pool_history.specs.Counting.{counts, keys_of, lines_of_entries, refutes, result_comes, spends}
use Rattle.pool_history.specs.Returning.{becomes_active, dies, proposed, removed, replaced, returns_to, sets_aside, takes_effect, worked}
use Rattle.pool_history.specs.Solving.{modelled_by, refuted_by}
use Rattle.pool_history.specs.Claiming.{claimed_by, given_out, next_given}
use Rattle.pool_history.specs.Outcomes.{heavy_or_saturated, is_at_rest, is_of_living, outcome_by, outcome_of}
use Rattle.pool_history.specs.Replay.{Origin, after, start, replay}
use Rattle.pool_history.specs.declared.options.Options.{Options}
use Rattle.pool_history.specs.declared.batch.Batch.{Batch}
use Rattle.pool_history.specs.declared.batch.Fate.{Fate}
use Rattle.pool_history.specs.declared.batch.Fate.TheVariants.{Kept, Dropped, Heavy as TooHeavy}
use Rattle.pool_history.specs.declared.batch.Removal.{Removal}
use Rattle.pool_history.specs.declared.batch.Work.{Work}
use Rattle.pool_history.specs.declared.batch.Work.TheVariants.{Gone, Met}
use Rattle.pool_history.specs.declared.event.Event.{Event}
use Rattle.pool_history.specs.declared.event.Event.TheVariants.{Claim, Return, Stale, Void, ClaimSolve, ReturnModel, ReturnRefuted, Abandon}
use Rattle.pool_history.specs.declared.outcome.Outcome.{Outcome}
use Rattle.pool_history.specs.declared.outcome.Outcome.TheVariants.{Refuted, Saturated, Spent, Heavy}
use Rattle.pool_history.proofs.AboutRecords.FrameLemmas.{Registers, by-if, inputs-register, result-registers, results-register}
use Rattle.pool_history.proofs.AboutCounting.SpentLemmas.{spent_is_the_count}
use Rattle.worker_team.specs.Causes.{HasCause, OutcomesHaveCauses}

-- what events may make of a pool
abbrev IsEnd : Option Outcome → Type 0
IsEnd None = ⊤
IsEnd (Some Refuted) = ⊤
IsEnd (Some (Spent count)) = ⊤
IsEnd (Some Saturated) = ⊥
IsEnd (Some (Heavy place)) = ⊥

abbrev Ends : PoolRecord → Type 0
Ends r = IsEnd r.ended

registers-ends : (r s : PoolRecord) → Registers r s → Ends r → Ends s
registers-ends r s registers is =
    ⊎_elim (λ kept. subst IsEnd (sym kept) is) (λ refuted. subst IsEnd (sym refuted) tt) registers.ends

module _ (options : Options) where
  -- ---- countings

  spends-ends : (o : Option (List Line)) (r : PoolRecord) → Ends r → Ends (spends options.split o r)
  spends-ends None r is = tt
  spends-ends (Some lines) r is = registers-ends r (result_comes options.split r lines) (result-registers options.split r lines) is

  counts-ends : (keys : List Key) (results : List (List Line)) (r : PoolRecord) → Ends r → Ends (counts options keys results r)
  counts-ends keys results r is =
      let s : PoolRecord = record r { counted = r.counted ++ keys } in
      by-if Ends (nat_le options.inferences (length s.counted)) (spends options.split (find refutes results) s) (fold (result_comes options.split) s results)
      (spends-ends (find refutes results) s is)
      (registers-ends s (fold (result_comes options.split) s results) (results-register options.split results s) is)

  -- ---- returns

  replaced-ends : (victim : ℕ) (fate : Fate) (r : PoolRecord) → Ends r → Ends (replaced options victim fate r)
  replaced-ends victim (Kept lines results) r is = counts-ends (Replaced victim ∷ []) (lines ∷ []) r is
  replaced-ends victim (Dropped redundancy) r is = is
  replaced-ends victim TooHeavy r is = is

  removed-ends : (m : Removal) (r : PoolRecord) → Ends r → Ends (removed options m r)
  removed-ends m r is = replaced-ends m.victim m.fate (dies m.victim m.justifiers r) is

  all-proposed-end : (removals : List Removal) (r : PoolRecord) → Ends r → Ends (fold (proposed options) r removals)
  all-proposed-end [] r is = is
  all-proposed-end (m ∷ ms) r is =
      all-proposed-end ms (proposed options r m) (by-if Ends (takes_effect r m) (removed options m r) r (removed-ends m r is) is)

  worked-ends : (n : ℕ) (work : Work) (r : PoolRecord) → Ends r → Ends (worked options n work r)
  worked-ends n (Gone m) r is = removed-ends m r is
  worked-ends n (Met entries removals) r is =
      let s : PoolRecord = sets_aside entries (becomes_active n r) in
      all-proposed-end removals (counts options (keys_of entries) (lines_of_entries entries) s)
      (counts-ends (keys_of entries) (lines_of_entries entries) s is)

  returned-ends : (batch : Batch) (o : Option GivenJob) (r : PoolRecord) → Ends r → Ends (returns_to options batch o r)
  returned-ends batch None r is = is
  returned-ends batch (Some j) r is =
      let s : PoolRecord = record r { given = without_job batch.job r.given } in
      by-if Ends (is_none r.ended) (worked options j.number batch.work s) (becomes_active j.number s) (worked-ends j.number batch.work s is) is

  -- ---- events

  claimed-ends : (job : ℕ) (o : Option ℕ) (r : PoolRecord) → Ends r → Ends (claimed_by options job o r)
  claimed-ends job None r is = is
  claimed-ends job (Some n) r is =
      by-if (λ s. Ends (given_out options job n s)) (has_number n r.positions) r (record r { positions = r.positions ++ n ∷ [] }) is is

  modelled-ends : (o : Option SolverJob) (truths : List Bool) (r : PoolRecord) → Ends r → Ends (modelled_by o truths r)
  modelled-ends None truths r is = is
  modelled-ends (Some s) truths r is = is

  refuted-ends : (o : Option SolverJob) (chains : List log.Chain) (r : PoolRecord) → Ends r → Ends (refuted_by o chains r)
  refuted-ends None chains r is = is
  refuted-ends (Some s) chains r is = by-if Ends (is_none r.ended) _ (record r { solver = None }) tt is

  after-ends : (r : PoolRecord) (e : Event) → Ends r → Ends (after options r e)
  after-ends r (Claim job) is = claimed-ends job (next_given r) r is
  after-ends r (Return batch) is = returned-ends batch (given_job r batch.job) r is
  after-ends r (Stale job justifier) is = is
  after-ends r (Void job) is = is
  after-ends r (ClaimSolve job) is = is
  after-ends r (ReturnModel job truths) is = modelled-ends r.solver truths r is
  after-ends r (ReturnRefuted job chains) is = refuted-ends r.solver chains r is
  after-ends r (Abandon job) is = is

  history-ends : (es : List Event) (r : PoolRecord) → Ends r → Ends (fold (after options) r es)
  history-ends [] r is = is
  history-ends (e ∷ es) r is = history-ends es (after options r e) (after-ends r e is)

pub replay-ends : (origin : Origin) (history : List Event) → Ends (replay origin history)
replay-ends origin history =
    history-ends origin.options history (start origin)
    (registers-ends nothing_registered (start origin) (inputs-register origin.options.split 0 origin.inputs nothing_registered) tt)

-- ---- causes

-- where nothing is left to do
rest-cause :
    (options : Options) (r : PoolRecord) (o : Option ℕ)
    → position (is_of_living r) r.set_aside ≡ o → is_at_rest r ≡ true → HasCause options r (heavy_or_saturated o)
rest-cause options r None found rests = (rests, found)
rest-cause options r (Some place) found rests = (rests, found)

cause-of :
    (options : Options) (r : PoolRecord) (outcome : Outcome)
    → Ends r → ((count : ℕ) → r.ended ≡ Some (Spent count) → (count ≡ length r.counted) × (options.inferences ≤ count))
    → outcome_of r ≡ Some outcome → HasCause options r outcome
cause-of options r outcome ends spent stands = by r.ended refl ends
  where
    same : (o : Option Outcome) → r.ended ≡ o → outcome_by o r ≡ Some outcome
    same o is = ap (λ p. outcome_by p r) (sym is) ∙ stands

    by : (o : Option Outcome) → r.ended ≡ o → IsEnd o → HasCause options r outcome
    by None is end =
        let found : Option ℕ = position (is_of_living r) r.set_aside in
        let rests = cond_some (is_at_rest r) (heavy_or_saturated found) outcome (same None is) in
        subst (HasCause options r) rests.1 (rest-cause options r found refl rests.0)
    by (Some Refuted) is end = subst (HasCause options r) (same_Some Refuted outcome (same (Some Refuted) is)) is
    by (Some (Spent count)) is end =
        let counted = spent count is in subst (HasCause options r) (same_Some (Spent count) outcome (same (Some (Spent count)) is)) (counted.0, counted.1)
    by (Some Saturated) is end = absurd end
    by (Some (Heavy place)) is end = absurd end

pub outcomes-have-causes : OutcomesHaveCauses
outcomes-have-causes origin history outcome stands =
    cause-of origin.options (replay origin history) outcome (replay-ends origin history) (spent_is_the_count origin history) stands
