-- What every clause that comes keeps of a record's parts and registered clauses, every list of events keeps, lawful or not.
use Rattle.std.proofs.Common.{◌≡◌, ℕ, suc, Bool, List, [], ◌∷◌, ◌++◌, map, length, sym, subst}
use Rattle.std.specs.Prelude.{Option, None, Some, is_none, nat_le, fold, find}
use Rattle.fol_base.specs.Clause.{TreeLiteral, TreeClause}
use Rattle.kernel_steps.specs.Split.{has_number}
use Rattle.kernel_steps.specs.declared.key.Key.{Key}
use Rattle.kernel_steps.specs.declared.key.Key.TheVariants.{Replaced}
use Rattle.kernel_steps.specs.declared.step.Step.TheVariants.{Clausify}
use Rattle.kernel_steps.specs.declared.step.Line.{Line}
use Rattle.kernel_steps.specs.FromTrees.{line_of}
use Rattle.sat_core.specs.declared.answer.Chain as log
use Rattle.pool_history.specs.Record.{PoolRecord, Registered, GivenJob, SolverJob, given_job, without_job, nothing_registered}
use Rattle.pool_history.specs.Lines.{pool_line, result_of}
use Rattle.pool_history.specs.Registering.{comes, unless_ended, with_inputs}
use Rattle.pool_history.specs.Counting.{lines_of_entries, keys_of, comes_by, result_comes, refutes, spends, counts}
use Rattle.pool_history.specs.Returning.{dies, replaced, removed, takes_effect, proposed, becomes_active, sets_aside, worked, returns_to}
use Rattle.pool_history.specs.declared.outcome.Outcome.TheVariants.{Refuted}
use Rattle.pool_history.specs.Solving.{cited_line, chain_step, with_step, modelled_by, refuted_by}
use Rattle.pool_history.specs.Claiming.{next_given, given_out, claimed_by}
use Rattle.pool_history.specs.Replay.{Origin, after, replay}
use Rattle.pool_history.specs.declared.options.Options.{Options}
use Rattle.pool_history.specs.declared.batch.Batch.{Batch}
use Rattle.pool_history.specs.declared.batch.Fate.{Fate}
use Rattle.pool_history.specs.declared.batch.Fate.TheVariants.{Kept, Dropped, Heavy}
use Rattle.pool_history.specs.declared.batch.Removal.{Removal}
use Rattle.pool_history.specs.declared.batch.Work.{Work}
use Rattle.pool_history.specs.declared.batch.Work.TheVariants.{Gone, Met}
use Rattle.pool_history.specs.declared.event.Event.{Event}
use Rattle.pool_history.specs.declared.event.Event.TheVariants.{Claim, Return, Stale, Void, ClaimSolve, ReturnModel, ReturnRefuted, Abandon}
use Rattle.pool_history.proofs.AboutRecords.FrameLemmas.{by-if}

-- what holds of a record's parts and registered clauses, and is kept by each clause that comes
module _
    (options : Options) (P : List (List TreeLiteral) → List Registered → Type 0)
    (keeps : (lines : List Line) (c : TreeClause) (r : PoolRecord) → P r.parts r.registered → P (comes options.split lines c r).parts (comes options.split lines c r).registered) where
  abbrev pub Holds : PoolRecord → Type 0
  Holds r = P r.parts r.registered

  comes-holds : (lines : List Line) (c : TreeClause) (r : PoolRecord) → Holds r → Holds (comes options.split lines c r)
  comes-holds lines c r holds = keeps lines c r holds

  inputs-holds : (i : ℕ) (cs : List TreeClause) (r : PoolRecord) → Holds r → Holds (with_inputs options.split i cs r)
  inputs-holds i [] r holds = holds
  inputs-holds i (c ∷ cs) r holds =
      let lines : List Line = line_of (Clausify i) c ∷ [] in
      inputs-holds (suc i) cs (unless_ended (comes options.split lines c) r)
      (by-if Holds (is_none r.ended) (comes options.split lines c r) r (comes-holds lines c r holds) holds)

  result-holds : (lines : List Line) (r : PoolRecord) → Holds r → Holds (result_comes options.split r lines)
  result-holds lines r holds =
      by-if Holds (is_none r.ended) (comes_by options.split lines (result_of lines) r) r (by (result_of lines)) holds
    where
      by : (o : Option TreeClause) → Holds (comes_by options.split lines o r)
      by None = holds
      by (Some c) = comes-holds (map (pool_line r) lines) c r holds

  results-holds : (results : List (List Line)) (r : PoolRecord) → Holds r → Holds (fold (result_comes options.split) r results)
  results-holds [] r holds = holds
  results-holds (lines ∷ results) r holds = results-holds results (result_comes options.split r lines) (result-holds lines r holds)

  spends-holds : (o : Option (List Line)) (r : PoolRecord) → Holds r → Holds (spends options.split o r)
  spends-holds None r holds = holds
  spends-holds (Some lines) r holds = result-holds lines r holds

  pub counts-holds : (keys : List Key) (results : List (List Line)) (r : PoolRecord) → Holds r → Holds (counts options keys results r)
  counts-holds keys results r holds =
      let s : PoolRecord = record r { counted = r.counted ++ keys } in
      by-if Holds (nat_le options.inferences (length s.counted)) (spends options.split (find refutes results) s) (fold (result_comes options.split) s results)
      (spends-holds (find refutes results) s holds) (results-holds results s holds)

  pub removed-holds : (m : Removal) (r : PoolRecord) → Holds r → Holds (removed options m r)
  removed-holds m r holds = by m.fate
    where
      by : (fate : Fate) → Holds (replaced options m.victim fate (dies m.victim m.justifiers r))
      by (Kept lines results) = counts-holds (Replaced m.victim ∷ []) (lines ∷ []) (dies m.victim m.justifiers r) holds
      by (Dropped redundancy) = holds
      by Heavy = holds

  pub all-proposed-holds : (ms : List Removal) (r : PoolRecord) → Holds r → Holds (fold (proposed options) r ms)
  all-proposed-holds [] r holds = holds
  all-proposed-holds (m ∷ ms) r holds =
      all-proposed-holds ms (proposed options r m) (by-if Holds (takes_effect r m) (removed options m r) r (removed-holds m r holds) holds)

  worked-holds : (n : ℕ) (work : Work) (r : PoolRecord) → Holds r → Holds (worked options n work r)
  worked-holds n (Gone m) r holds = removed-holds m r holds
  worked-holds n (Met entries removals) r holds =
      let s : PoolRecord = sets_aside entries (becomes_active n r) in
      all-proposed-holds removals (counts options (keys_of entries) (lines_of_entries entries) s) (counts-holds (keys_of entries) (lines_of_entries entries) s holds)

  returned-holds : (batch : Batch) (o : Option GivenJob) (r : PoolRecord) → Holds r → Holds (returns_to options batch o r)
  returned-holds batch None r holds = holds
  returned-holds batch (Some j) r holds =
      let s : PoolRecord = record r { given = without_job batch.job r.given } in
      by-if Holds (is_none r.ended) (worked options j.number batch.work s) (becomes_active j.number s) (worked-holds j.number batch.work s holds) holds

  claimed-holds : (job : ℕ) (o : Option ℕ) (r : PoolRecord) → Holds r → Holds (claimed_by options job o r)
  claimed-holds job None r holds = holds
  claimed-holds job (Some n) r holds =
      by-if (λ s. Holds (given_out options job n s)) (has_number n r.positions) r (record r { positions = r.positions ++ n ∷ [] }) holds holds

  modelled-holds : (o : Option SolverJob) (truths : List Bool) (r : PoolRecord) → Holds r → Holds (modelled_by o truths r)
  modelled-holds None truths r holds = holds
  modelled-holds (Some s) truths r holds = holds

  refuted-holds : (o : Option SolverJob) (chains : List log.Chain) (r : PoolRecord) → Holds r → Holds (refuted_by o chains r)
  refuted-holds None chains r holds = holds
  refuted-holds (Some s) chains r holds =
      by-if Holds (is_none r.ended)
      (record r { solver = None; lines = fold with_step r.lines (map (chain_step (cited_line r s (length r.lines))) chains); ended = Some Refuted })
      (record r { solver = None }) holds holds

  after-holds : (r : PoolRecord) (e : Event) → Holds r → Holds (after options r e)
  after-holds r (Claim job) holds = claimed-holds job (next_given r) r holds
  after-holds r (Return batch) holds = returned-holds batch (given_job r batch.job) r holds
  after-holds r (Stale job justifier) holds = holds
  after-holds r (Void job) holds = holds
  after-holds r (ClaimSolve job) holds = holds
  after-holds r (ReturnModel job truths) holds = modelled-holds r.solver truths r holds
  after-holds r (ReturnRefuted job chains) holds = refuted-holds r.solver chains r holds
  after-holds r (Abandon job) holds = holds

  pub history-holds : (es : List Event) (r : PoolRecord) → Holds r → Holds (fold (after options) r es)
  history-holds [] r holds = holds
  history-holds (e ∷ es) r holds = history-holds es (after options r e) (after-holds r e holds)

  pub replay-holds : (origin : Origin) (history : List Event) → origin.options ≡ options → P [] [] → P (replay origin history).parts (replay origin history).registered
  replay-holds origin history same begins =
      subst (λ o. Holds (fold (after o) (with_inputs o.split 0 origin.inputs nothing_registered) history)) (sym same)
      (history-holds history (with_inputs options.split 0 origin.inputs nothing_registered) (inputs-holds 0 origin.inputs nothing_registered begins))
