-- Spent is the count: it holds at the start, and each event keeps it.
use Rattle.std.proofs.Common.{◌≡◌, ℕ, Bool, true, false, ◌&&◌, List, [], ◌∷◌, refl, sym}
use Rattle.std.specs.Prelude.{Option, None, Some, is_none, fold, if◌then◌else◌}
use Rattle.std.specs.List.{list_all}
use Rattle.std.proofs.lemmas.Bool.{and_parts, true≢false}
use Rattle.kernel_steps.specs.declared.key.Key.TheVariants.{Replaced}
use Rattle.kernel_steps.specs.Split.{has_number}
use Rattle.sat_core.specs.declared.answer.Chain as log
use Rattle.pool_history.specs.Record.{PoolRecord, GivenJob, SolverJob, lives, given_job, without_job, nothing_registered}
use Rattle.pool_history.specs.Counting.{counts, keys_of, lines_of_entries}
use Rattle.pool_history.specs.Returning.{dies, replaced, removed, takes_effect, proposed, becomes_active, sets_aside, worked, taken, returns_to}
use Rattle.pool_history.specs.Solving.{modelled_by, refuted_by}
use Rattle.pool_history.specs.Claiming.{next_given, given_out, claimed_by}
use Rattle.pool_history.specs.Replay.{Origin, after, start, replay}
use Rattle.pool_history.specs.declared.options.Options.{Options}
use Rattle.pool_history.specs.declared.batch.Batch.{Batch}
use Rattle.pool_history.specs.declared.batch.Fate.{Fate}
use Rattle.pool_history.specs.declared.batch.Fate.TheVariants.{Kept, Dropped, Heavy}
use Rattle.pool_history.specs.declared.batch.Removal.{Removal}
use Rattle.pool_history.specs.declared.batch.Work.{Work}
use Rattle.pool_history.specs.declared.batch.Work.TheVariants.{Gone, Met}
use Rattle.pool_history.specs.declared.event.Event.{Event}
use Rattle.pool_history.specs.declared.event.Event.TheVariants.{Claim, Return, Stale, Void, ClaimSolve, ReturnModel, ReturnRefuted, Abandon}
use Rattle.pool_history.specs.declared.outcome.Outcome.{Outcome}
use Rattle.pool_history.specs.declared.outcome.Outcome.TheVariants.{Refuted}
use Rattle.pool_history.proofs.AboutRecords.FrameLemmas.{by-if, inputs-register}
use Rattle.pool_history.proofs.AboutCounting.CountLemmas.{IsSpentRight, open-right, refuted-right, registers-right, counts-right}

module _ (options : Options) where
  abbrev Right : PoolRecord → Type 0
  Right r = IsSpentRight options.inferences r.ended r.counted

  is-open : (o : Option Outcome) → is_none o ≡ true → o ≡ None
  is-open None h = refl
  is-open (Some outcome) h = absurd (true≢false (sym h))

  -- what needs the pool to be open, or leaves it as it is
  if-open : (change : PoolRecord → PoolRecord) (r : PoolRecord) → (r.ended ≡ None → Right (change r)) → (other : PoolRecord) → Right other → Right (if is_none r.ended then change r else other)
  if-open change r opens other keeps = by (is_none r.ended) (λ h. opens (is-open r.ended h))
    where
      by : (b : Bool) → (b ≡ true → Right (change r)) → Right (if b then change r else other)
      by true opened = opened refl
      by false opened = keeps

  -- ---- returns

  replaced-right : (victim : ℕ) (fate : Fate) (r : PoolRecord) → r.ended ≡ None → Right (replaced options victim fate r)
  replaced-right victim (Kept lines results) r is_open = counts-right options (Replaced victim ∷ []) (lines ∷ []) r is_open
  replaced-right victim (Dropped redundancy) r is_open = open-right options.inferences r.ended r.counted is_open
  replaced-right victim Heavy r is_open = open-right options.inferences r.ended r.counted is_open

  removed-right : (m : Removal) (r : PoolRecord) → r.ended ≡ None → Right (removed options m r)
  removed-right m r is_open = replaced-right m.victim m.fate (dies m.victim m.justifiers r) is_open

  proposed-right : (r : PoolRecord) (m : Removal) → Right r → Right (proposed options r m)
  proposed-right r m right = by (takes_effect r m) (λ h. removed-right m r (is-open r.ended (and_parts (is_none r.ended) (lives r m.victim && list_all (lives r) m.justifiers) h).0))
    where
      by : (b : Bool) → (b ≡ true → Right (removed options m r)) → Right (if b then removed options m r else r)
      by true taken_effect = taken_effect refl
      by false taken_effect = right

  all-proposed-right : (removals : List Removal) (r : PoolRecord) → Right r → Right (fold (proposed options) r removals)
  all-proposed-right [] r right = right
  all-proposed-right (m ∷ ms) r right = all-proposed-right ms (proposed options r m) (proposed-right r m right)

  worked-right : (n : ℕ) (work : Work) (r : PoolRecord) → r.ended ≡ None → Right (worked options n work r)
  worked-right n (Gone m) r is_open = removed-right m r is_open
  worked-right n (Met entries removals) r is_open =
      all-proposed-right removals (counts options (keys_of entries) (lines_of_entries entries) (sets_aside entries (becomes_active n r)))
      (counts-right options (keys_of entries) (lines_of_entries entries) (sets_aside entries (becomes_active n r)) is_open)

  taken-right : (n : ℕ) (work : Work) (r : PoolRecord) → Right r → Right (taken options n work r)
  taken-right n work r right = if-open (worked options n work) r (worked-right n work r) (becomes_active n r) right

  returns_to-right : (batch : Batch) (o : Option GivenJob) (r : PoolRecord) → Right r → Right (returns_to options batch o r)
  returns_to-right batch None r right = right
  returns_to-right batch (Some j) r right = taken-right j.number batch.work (record r { given = without_job batch.job r.given }) right

  -- ---- other events

  claimed_by-right : (job : ℕ) (o : Option ℕ) (r : PoolRecord) → Right r → Right (claimed_by options job o r)
  claimed_by-right job None r right = right
  claimed_by-right job (Some n) r right = by-if (λ s. Right (given_out options job n s)) (has_number n r.positions) r _ right right

  modelled-right : (o : Option SolverJob) (truths : List Bool) (r : PoolRecord) → Right r → Right (modelled_by o truths r)
  modelled-right None truths r right = right
  modelled-right (Some s) truths r right = right

  refuted_by-right : (o : Option SolverJob) (chains : List log.Chain) (r : PoolRecord) → Right r → Right (refuted_by o chains r)
  refuted_by-right None chains r right = right
  refuted_by-right (Some s) chains r right =
      by-if Right (is_none r.ended) _ _ (refuted-right options.inferences (Some Refuted) r.counted refl) right

  after-right : (r : PoolRecord) (e : Event) → Right r → Right (after options r e)
  after-right r (Claim job) right = claimed_by-right job (next_given r) r right
  after-right r (Return batch) right = returns_to-right batch (given_job r batch.job) r right
  after-right r (Stale job justifier) right = right
  after-right r (Void job) right = right
  after-right r (ClaimSolve job) right = right
  after-right r (ReturnModel job truths) right = modelled-right r.solver truths r right
  after-right r (ReturnRefuted job chains) right = refuted_by-right r.solver chains r right
  after-right r (Abandon job) right = right

  history-right : (history : List Event) (r : PoolRecord) → Right r → Right (fold (after options) r history)
  history-right [] r right = right
  history-right (e ∷ es) r right = history-right es (after options r e) (after-right r e right)

-- at every moment of every list of events
pub spent_is_the_count : (origin : Origin) (history : List Event) → IsSpentRight origin.options.inferences (replay origin history).ended (replay origin history).counted
spent_is_the_count origin history =
    history-right origin.options history (start origin)
    (registers-right origin.options.inferences nothing_registered (start origin)
    (inputs-register origin.options.split 0 origin.inputs nothing_registered)
    (open-right origin.options.inferences None [] refl))
