-- No event fixes another outcome than Refuted and Spent.
use Rattle.std.proofs.Common.{◌≡◌, ℕ, Bool, List, [], ◌∷◌, ◌++◌, refl, sym, subst, inl, inr, ◌⊎◌, ⊎_elim}
use Rattle.std.specs.Prelude.{Option, None, Some, is_none, fold}
use Rattle.kernel_steps.specs.Split.{has_number}
use Rattle.sat_core.specs.declared.answer.Chain as log
use Rattle.pool_history.specs.Record.{PoolRecord, GivenJob, SolverJob, given_job, without_job, nothing_registered}
use Rattle.pool_history.specs.Claiming.{next_given, given_out, claimed_by}
use Rattle.pool_history.specs.Counting.{keys_of}
use Rattle.pool_history.specs.Returning.{removed, becomes_active, worked, returns_to}
use Rattle.pool_history.specs.Solving.{modelled_by, refuted_by}
use Rattle.pool_history.specs.Replay.{after, start}
use Rattle.pool_history.specs.declared.options.Options.{Options}
use Rattle.pool_history.specs.declared.batch.Batch.{Batch}
use Rattle.pool_history.specs.declared.batch.Work.{Work}
use Rattle.pool_history.specs.declared.batch.Work.TheVariants.{Gone, Met}
use Rattle.pool_history.specs.declared.event.Event.{Event}
use Rattle.pool_history.specs.declared.event.Event.TheVariants.{Claim, Return, Stale, Void, ClaimSolve, ReturnModel, ReturnRefuted, Abandon}
use Rattle.pool_history.specs.declared.outcome.Outcome.{Outcome}
use Rattle.pool_history.proofs.AboutRecords.FrameLemmas.{by-if, inputs-register}
use Rattle.laws_saturation.specs.Laws.{FixedAreRefutedOrSpent}
use Rattle.laws_saturation.proofs.AboutCarried.TallyLemmas.{IsFixed, Tallies, registers-tallies, removed-tallies, met-tallies}

abbrev pub OnlyFixed : PoolRecord → Type 0
OnlyFixed r = (r.ended ≡ None) ⊎ IsFixed r.ended

fixed-tallies : (r s : PoolRecord) → Tallies r s → OnlyFixed r → OnlyFixed s
fixed-tallies r s so_far fixed =
    ⊎_elim
    (λ (kept : s.ended ≡ r.ended). subst (λ (o : Option Outcome). (o ≡ None) ⊎ IsFixed o) (sym kept) fixed)
    (λ (now : IsFixed s.ended). inr now)
    so_far.ends

module _ (options : Options) where
  worked-fixed : (n : ℕ) (work : Work) (r : PoolRecord) → OnlyFixed r → OnlyFixed (worked options n work r)
  worked-fixed n (Gone m) r fixed = fixed-tallies r (removed options m r) (removed-tallies options m r) fixed
  worked-fixed n (Met entries removals) r fixed =
      fixed-tallies (record r { counted = r.counted ++ keys_of entries }) (worked options n (Met entries removals) r)
      (met-tallies options n entries removals r) fixed

  returned-fixed : (batch : Batch) (o : Option GivenJob) (r : PoolRecord) → OnlyFixed r → OnlyFixed (returns_to options batch o r)
  returned-fixed batch None r fixed = fixed
  returned-fixed batch (Some j) r fixed =
      let s : PoolRecord = record r { given = without_job batch.job r.given } in
      by-if OnlyFixed (is_none r.ended) (worked options j.number batch.work s) (becomes_active j.number s) (worked-fixed j.number batch.work s fixed) fixed

  claimed-fixed : (job : ℕ) (o : Option ℕ) (r : PoolRecord) → OnlyFixed r → OnlyFixed (claimed_by options job o r)
  claimed-fixed job None r fixed = fixed
  claimed-fixed job (Some n) r fixed =
      by-if (λ s. OnlyFixed (given_out options job n s)) (has_number n r.positions) r (record r { positions = r.positions ++ n ∷ [] }) fixed fixed

  modelled-fixed : (o : Option SolverJob) (truths : List Bool) (r : PoolRecord) → OnlyFixed r → OnlyFixed (modelled_by o truths r)
  modelled-fixed None truths r fixed = fixed
  modelled-fixed (Some s) truths r fixed = fixed

  refuted-fixed : (o : Option SolverJob) (chains : List log.Chain) (r : PoolRecord) → OnlyFixed r → OnlyFixed (refuted_by o chains r)
  refuted-fixed None chains r fixed = fixed
  refuted-fixed (Some s) chains r fixed = by-if OnlyFixed (is_none r.ended) _ (record r { solver = None }) (inr (inl refl)) fixed

  after-fixed : (r : PoolRecord) (e : Event) → OnlyFixed r → OnlyFixed (after options r e)
  after-fixed r (Claim job) fixed = claimed-fixed job (next_given r) r fixed
  after-fixed r (Return batch) fixed = returned-fixed batch (given_job r batch.job) r fixed
  after-fixed r (Stale job justifier) fixed = fixed
  after-fixed r (Void job) fixed = fixed
  after-fixed r (ClaimSolve job) fixed = fixed
  after-fixed r (ReturnModel job truths) fixed = modelled-fixed r.solver truths r fixed
  after-fixed r (ReturnRefuted job chains) fixed = refuted-fixed r.solver chains r fixed
  after-fixed r (Abandon job) fixed = fixed

  history-fixed : (es : List Event) (r : PoolRecord) → OnlyFixed r → OnlyFixed (fold (after options) r es)
  history-fixed [] r fixed = fixed
  history-fixed (e ∷ es) r fixed = history-fixed es (after options r e) (after-fixed r e fixed)

pub fixed_are_refuted_or_spent : FixedAreRefutedOrSpent
fixed_are_refuted_or_spent origin history =
    history-fixed origin.options history (start origin)
    (fixed-tallies nothing_registered (start origin)
    (registers-tallies nothing_registered (start origin) (inputs-register origin.options.split 0 origin.inputs nothing_registered)) (inl refl))
