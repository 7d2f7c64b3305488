-- What each clause that comes, each death and each end keeps of a record, every list of events keeps, lawful or not.
use Rattle.std.proofs.Common.{◌≡◌, ℕ, suc, Bool, List, [], ◌∷◌, ◌++◌, map, length, append-nil, append_assoc, sym, ◌∙◌, subst}
use Rattle.std.specs.Prelude.{◌&&◌, Option, None, Some, is_none, nat_le, fold, find}
use Rattle.std.specs.List.{list_all}
use Rattle.std.proofs.lemmas.Bool.{and_parts}
use Rattle.fol_base.specs.Clause.{TreeLiteral, TreeClause}
use Rattle.kernel_steps.specs.Conclusion.{verdict}
use Rattle.kernel_steps.specs.Derivation.{line_parents}
use Rattle.kernel_steps.specs.Split.{has_number}
use Rattle.kernel_steps.specs.declared.key.Key.{Key}
use Rattle.kernel_steps.specs.declared.key.Key.TheVariants.{Replaced}
use Rattle.kernel_steps.specs.declared.step.Step.{Step}
use Rattle.kernel_steps.specs.declared.step.Step.TheVariants.{Clausify}
use Rattle.kernel_steps.specs.declared.step.Line.{Line}
use Rattle.kernel_steps.specs.FromTrees.{line_of}
use Rattle.sat_core.specs.declared.answer.Chain as log
use Rattle.pool_history.specs.Record.{PoolRecord, Registered, Death, GivenJob, SolverJob, lives, given_job, without_job, nothing_registered}
use Rattle.pool_history.specs.Lines.{pool_line, result_of}
use Rattle.pool_history.specs.Registering.{comes, unless_ended, with_inputs}
use Rattle.pool_history.specs.Counting.{lines_of_entries, keys_of, comes_by, result_comes, refutes, spends, counts}
use Rattle.pool_history.specs.Returning.{dies, replaced, removed, takes_effect, proposed, becomes_active, sets_aside, worked, returns_to}
use Rattle.pool_history.specs.Solving.{cited_line, chain_step, clause_concluded, with_step, modelled_by, refuted_by}
use Rattle.pool_history.specs.Claiming.{next_given, given_out, claimed_by}
use Rattle.pool_history.specs.Replay.{Origin, after, replay}
use Rattle.pool_history.specs.declared.outcome.Outcome.{Outcome}
use Rattle.pool_history.specs.declared.outcome.Outcome.TheVariants.{Refuted, Spent}
use Rattle.pool_history.specs.declared.options.Options.{Options}
use Rattle.pool_history.specs.declared.batch.Batch.{Batch}
use Rattle.pool_history.specs.declared.batch.Fate.{Fate}
use Rattle.pool_history.specs.declared.batch.Fate.TheVariants.{Kept, Dropped, Heavy}
use Rattle.pool_history.specs.declared.batch.Removal.{Removal}
use Rattle.pool_history.specs.declared.batch.Work.{Work}
use Rattle.pool_history.specs.declared.batch.Work.TheVariants.{Gone, Met}
use Rattle.pool_history.specs.declared.event.Event.{Event}
use Rattle.pool_history.specs.declared.event.Event.TheVariants.{Claim, Return, Stale, Void, ClaimSolve, ReturnModel, ReturnRefuted, Abandon}
use Rattle.pool_history.proofs.AboutRecords.FrameLemmas.{by-if}
use Rattle.pool_history.proofs.AboutLines.JoinedLemmas.{by-test}
use Rattle.pool_history.proofs.AboutLines.SoundLemmas.{open-is}

-- steps put lines after those that are there
stepped : (steps : List Step) (lines : List Line) → (more : List Line) × (fold with_step lines steps ≡ lines ++ more)
stepped [] lines = ([], sym (append-nil lines))
stepped (step ∷ steps) lines =
    let line : Line = line_of step (clause_concluded (verdict step (line_parents lines))) in
    let rest = stepped steps (with_step lines step) in
    (line ∷ rest.0, rest.1 ∙ append_assoc lines (line ∷ []) rest.0)

-- the clauses come while the record is open
module _
    (options : Options) (P : List (List TreeLiteral) → List Registered → List Line → List Death → Option Outcome → Type 0)
    (coming :
    (lines : List Line) (c : TreeClause) (r : PoolRecord) → r.ended ≡ None → P r.parts r.registered r.lines r.deaths r.ended
    → P (comes options.split lines c r).parts (comes options.split lines c r).registered (comes options.split lines c r).lines
    (comes options.split lines c r).deaths (comes options.split lines c r).ended)
    (spent :
    (count : ℕ) (r : PoolRecord) → r.ended ≡ None → P r.parts r.registered r.lines r.deaths r.ended
    → P r.parts r.registered r.lines r.deaths (Some (Spent count)))
    (dying : (d : Death) (r : PoolRecord) → P r.parts r.registered r.lines r.deaths r.ended → P r.parts r.registered r.lines (r.deaths ++ d ∷ []) r.ended)
    (refuting :
    (more : List Line) (r : PoolRecord) → P r.parts r.registered r.lines r.deaths r.ended → P r.parts r.registered (r.lines ++ more) r.deaths (Some Refuted)) where
  abbrev pub Keeps : PoolRecord → Type 0
  Keeps r = P r.parts r.registered r.lines r.deaths r.ended

  comes-keeps : (lines : List Line) (c : TreeClause) (r : PoolRecord) → r.ended ≡ None → Keeps r → Keeps (comes options.split lines c r)
  comes-keeps lines c r is_open keeps = coming lines c r is_open keeps

  inputs-keep : (i : ℕ) (cs : List TreeClause) (r : PoolRecord) → Keeps r → Keeps (with_inputs options.split i cs r)
  inputs-keep i [] r keeps = keeps
  inputs-keep i (c ∷ cs) r keeps =
      let lines : List Line = line_of (Clausify i) c ∷ [] in
      inputs-keep (suc i) cs (unless_ended (comes options.split lines c) r)
      (by-test Keeps (is_none r.ended) (comes options.split lines c r) r (λ is_open. comes-keeps lines c r (open-is r.ended is_open) keeps) (λ ended. keeps))

  result-keeps : (lines : List Line) (r : PoolRecord) → Keeps r → Keeps (result_comes options.split r lines)
  result-keeps lines r keeps =
      by-test Keeps (is_none r.ended) (comes_by options.split lines (result_of lines) r) r (λ is_open. by (result_of lines) (open-is r.ended is_open)) (λ ended. keeps)
    where
      by : (o : Option TreeClause) → r.ended ≡ None → Keeps (comes_by options.split lines o r)
      by None is_open = keeps
      by (Some c) is_open = comes-keeps (map (pool_line r) lines) c r is_open keeps

  results-keep : (results : List (List Line)) (r : PoolRecord) → Keeps r → Keeps (fold (result_comes options.split) r results)
  results-keep [] r keeps = keeps
  results-keep (lines ∷ results) r keeps = results-keep results (result_comes options.split r lines) (result-keeps lines r keeps)

  spends-keeps : (o : Option (List Line)) (r : PoolRecord) → r.ended ≡ None → Keeps r → Keeps (spends options.split o r)
  spends-keeps None r is_open keeps = spent (length r.counted) r is_open keeps
  spends-keeps (Some lines) r is_open keeps = result-keeps lines r keeps

  counts-keep : (keys : List Key) (results : List (List Line)) (r : PoolRecord) → r.ended ≡ None → Keeps r → Keeps (counts options keys results r)
  counts-keep keys results r is_open keeps =
      let s : PoolRecord = record r { counted = r.counted ++ keys } in
      by-if Keeps (nat_le options.inferences (length s.counted)) (spends options.split (find refutes results) s) (fold (result_comes options.split) s results)
      (spends-keeps (find refutes results) s is_open keeps) (results-keep results s keeps)

  removed-keeps : (m : Removal) (r : PoolRecord) → r.ended ≡ None → Keeps r → Keeps (removed options m r)
  removed-keeps m r is_open keeps = by m.fate
    where
      gone : PoolRecord
      gone = dies m.victim m.justifiers r

      dead : Keeps (dies m.victim m.justifiers r)
      dead = dying (record { victim = m.victim; event = r.events; justifiers = m.justifiers }) r keeps

      by : (fate : Fate) → Keeps (replaced options m.victim fate (dies m.victim m.justifiers r))
      by (Kept lines results) = counts-keep (Replaced m.victim ∷ []) (lines ∷ []) (dies m.victim m.justifiers r) is_open dead
      by (Dropped redundancy) = dead
      by Heavy = dead

  all-proposed-keep : (ms : List Removal) (r : PoolRecord) → Keeps r → Keeps (fold (proposed options) r ms)
  all-proposed-keep [] r keeps = keeps
  all-proposed-keep (m ∷ ms) r keeps =
      all-proposed-keep ms (proposed options r m)
      (by-test Keeps (takes_effect r m) (removed options m r) r
      (λ effect. removed-keeps m r (open-is r.ended (and_parts (is_none r.ended) (lives r m.victim && list_all (lives r) m.justifiers) effect).0) keeps)
      (λ none. keeps))

  worked-keeps : (n : ℕ) (work : Work) (r : PoolRecord) → r.ended ≡ None → Keeps r → Keeps (worked options n work r)
  worked-keeps n (Gone m) r is_open keeps = removed-keeps m r is_open keeps
  worked-keeps n (Met entries removals) r is_open keeps =
      let s : PoolRecord = sets_aside entries (becomes_active n r) in
      all-proposed-keep removals (counts options (keys_of entries) (lines_of_entries entries) s) (counts-keep (keys_of entries) (lines_of_entries entries) s is_open keeps)

  returned-keeps : (batch : Batch) (o : Option GivenJob) (r : PoolRecord) → Keeps r → Keeps (returns_to options batch o r)
  returned-keeps batch None r keeps = keeps
  returned-keeps batch (Some j) r keeps =
      let s : PoolRecord = record r { given = without_job batch.job r.given } in
      by-test Keeps (is_none r.ended) (worked options j.number batch.work s) (becomes_active j.number s)
      (λ is_open. worked-keeps j.number batch.work s (open-is r.ended is_open) keeps) (λ ended. keeps)

  claimed-keeps : (job : ℕ) (o : Option ℕ) (r : PoolRecord) → Keeps r → Keeps (claimed_by options job o r)
  claimed-keeps job None r keeps = keeps
  claimed-keeps job (Some n) r keeps =
      by-if (λ s. Keeps (given_out options job n s)) (has_number n r.positions) r (record r { positions = r.positions ++ n ∷ [] }) keeps keeps

  modelled-keeps : (o : Option SolverJob) (truths : List Bool) (r : PoolRecord) → Keeps r → Keeps (modelled_by o truths r)
  modelled-keeps None truths r keeps = keeps
  modelled-keeps (Some s) truths r keeps = keeps

  refuted-keeps : (o : Option SolverJob) (chains : List log.Chain) (r : PoolRecord) → Keeps r → Keeps (refuted_by o chains r)
  refuted-keeps None chains r keeps = keeps
  refuted-keeps (Some s) chains r keeps =
      let steps : List Step = map (chain_step (cited_line r s (length r.lines))) chains in
      let more = stepped steps r.lines in
      by-if Keeps (is_none r.ended) (record r { solver = None; lines = fold with_step r.lines steps; ended = Some Refuted }) (record r { solver = None })
      (subst (λ ls. P r.parts r.registered ls r.deaths (Some Refuted)) (sym more.1) (refuting more.0 r keeps)) keeps

  after-keeps : (r : PoolRecord) (e : Event) → Keeps r → Keeps (after options r e)
  after-keeps r (Claim job) keeps = claimed-keeps job (next_given r) r keeps
  after-keeps r (Return batch) keeps = returned-keeps batch (given_job r batch.job) r keeps
  after-keeps r (Stale job justifier) keeps = keeps
  after-keeps r (Void job) keeps = keeps
  after-keeps r (ClaimSolve job) keeps = keeps
  after-keeps r (ReturnModel job truths) keeps = modelled-keeps r.solver truths r keeps
  after-keeps r (ReturnRefuted job chains) keeps = refuted-keeps r.solver chains r keeps
  after-keeps r (Abandon job) keeps = keeps

  pub history-keeps : (es : List Event) (r : PoolRecord) → Keeps r → Keeps (fold (after options) r es)
  history-keeps [] r keeps = keeps
  history-keeps (e ∷ es) r keeps = history-keeps es (after options r e) (after-keeps r e keeps)

  pub replay-keeps : (origin : Origin) (history : List Event) → origin.options ≡ options → P [] [] [] [] None → Keeps (replay origin history)
  replay-keeps origin history same begins =
      subst (λ o. Keeps (fold (after o) (with_inputs o.split 0 origin.inputs nothing_registered) history)) (sym same)
      (history-keeps history (with_inputs options.split 0 origin.inputs nothing_registered) (inputs-keep 0 origin.inputs nothing_registered begins))
