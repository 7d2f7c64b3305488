-- A pool that doesn't split has no job for the solver, and its lines are of inputs and of rules on literals alone.
use Rattle.std.proofs.Common.{◌≡◌, ℕ, suc, Bool, true, false, List, [], ◌∷◌, ◌++◌, map, length, refl, ap, sym, ◌∙◌, subst}
use Rattle.std.specs.Prelude.{Option, None, Some, is_none, nat_le, fold, find, if◌then◌else◌}
use Rattle.std.specs.List.{list_all, AllByRecursion}
use Rattle.std.proofs.lemmas.Bool.{true≢false}
use Rattle.std.proofs.lemmas.List.Elements.{recursion_from_All}
use Rattle.std.proofs.lemmas.Option.{none-some}
use Rattle.fol_base.specs.Clause.{TreeClause}
use Rattle.fol_base.specs.WellFormed.{SymbolUse}
use Rattle.fol_base.proofs.WorkedExamples.TestLemmas.{list_all-joined, list_all-map_from}
use Rattle.kernel_steps.specs.FromTrees.{line_of}
use Rattle.kernel_steps.specs.Lines.{is_on_literals, is_plain_step}
use Rattle.kernel_steps.specs.Split.{has_number}
use Rattle.kernel_steps.specs.declared.key.Key.{Key}
use Rattle.kernel_steps.specs.declared.key.Key.TheVariants.{Replaced}
use Rattle.kernel_steps.specs.declared.step.Step.{Step}
use Rattle.kernel_steps.specs.declared.step.Step.TheVariants.{Clausify, Para, Refl, Factor, Merge}
use Rattle.kernel_steps.specs.declared.step.Line.{Line}
use Rattle.pool_history.specs.Tags.{line_names}
use Rattle.pool_history.specs.Record.{PoolRecord, GivenJob, clauses_of, given_job, has_living, without_job, nothing_registered}
use Rattle.pool_history.specs.Lines.{with_lines, with_parents, line_number, pool_line, result_of}
use Rattle.pool_history.specs.Registering.{registered_last, has_none, with_refutation, with_propositional, empty_comes, comes, unless_ended, with_inputs}
use Rattle.pool_history.specs.Counting.{lines_of_fate, lines_of_entries, keys_of, comes_by, result_comes, refutes, spends, counts}
use Rattle.pool_history.specs.Returning.{dies, replaced, removed, takes_effect, proposed, becomes_active, sets_aside, worked, returns_to}
use Rattle.pool_history.specs.Claiming.{next_given, given_out, claimed_by}
use Rattle.pool_history.specs.Batches.{IsRightFate, IsRightRemoval, IsRightWork}
use Rattle.pool_history.specs.Inputs.{AreInputs, IsUseOf}
use Rattle.pool_history.specs.Lawful.{IsAllowed, IsLawful, IsLawfulFrom}
use Rattle.pool_history.specs.Replay.{Origin, without_solver, after, start, replay}
use Rattle.pool_history.specs.declared.options.Options.{Options}
use Rattle.pool_history.specs.declared.batch.Batch.{Batch}
use Rattle.pool_history.specs.declared.batch.Entry.{Entry}
use Rattle.pool_history.specs.declared.batch.Fate.{Fate}
use Rattle.pool_history.specs.declared.batch.Fate.TheVariants.{Kept, Dropped, Heavy}
use Rattle.pool_history.specs.declared.batch.Removal.{Removal}
use Rattle.pool_history.specs.declared.batch.Work.{Work}
use Rattle.pool_history.specs.declared.batch.Work.TheVariants.{Gone, Met}
use Rattle.pool_history.specs.declared.event.Event.{Event}
use Rattle.pool_history.specs.declared.event.Event.TheVariants.{Claim, Return, Stale, Void, ClaimSolve, ReturnModel, ReturnRefuted, Abandon}
use Rattle.pool_history.proofs.AboutRecords.FrameLemmas.{by-if}
use Rattle.pool_history.proofs.AboutLines.BeginningLemmas.{replay-sound}
use Rattle.pool_history.proofs.AboutLines.JoinedLemmas.{found-holds}
use Rattle.pool_history.proofs.AboutLines.PoolLineLemmas.{Sound}
use Rattle.pool_history.proofs.AboutLines.SoundLemmas.{Comes, FateComes, all-entries-come, all-removals-come, after-sound}
use Rattle.pool_history.proofs.AboutLines.UnsplitLemmas.{unsplit-after, unsplit-parts, unsplit-solved}

abbrev pub is_plain : Line → Bool
is_plain l = is_plain_step l.step

abbrev pub IsUnsplit : PoolRecord → Type 0
IsUnsplit r = (r.solver ≡ None) × (list_all is_plain r.lines ≡ true)

-- ---- lines of batches

abbrev AreOnLiterals : List Line → Type 0
AreOnLiterals lines = list_all (λ (l : Line). is_on_literals l.step) lines ≡ true

plain-renumbered : (f : ℕ → ℕ) (step : Step) → is_on_literals step ≡ true → is_plain_step (with_parents f step) ≡ true
plain-renumbered f (Para first second from from_side into into_side place first_bind second_bind) kind = refl
plain-renumbered f (Refl parent literal bind) kind = refl
plain-renumbered f (Factor parent becomes becomes_side other other_side bind) kind = refl
plain-renumbered f (Merge parent stays goes bind) kind = refl
plain-renumbered f _ kind = absurd (true≢false (sym kind))

plain-lines : (r : PoolRecord) (lines : List Line) → AreOnLiterals lines → list_all is_plain (map (pool_line r) lines) ≡ true
plain-lines r lines kinds =
    list_all-map_from (λ (l : Line). is_on_literals l.step) is_plain (pool_line r)
    (λ l kind. plain-renumbered (line_number r.registered (length r.lines)) l.step kind) lines kinds

-- ---- a clause that comes by its lines

comes-unsplit :
    (split : Bool) (lines : List Line) (c : TreeClause) (r : PoolRecord)
    → split ≡ false → list_all is_plain lines ≡ true → IsUnsplit r → IsUnsplit (comes split lines c r)
comes-unsplit split lines c r unsplit plain is = subst (λ b. IsUnsplit (comes b lines c r)) (sym unsplit) alone
  where
    put : IsUnsplit (with_lines r lines)
    put = (is.0, list_all-joined is_plain r.lines lines is.1 plain)

    alone : IsUnsplit (comes false lines c r)
    alone =
        by-if IsUnsplit (has_none c.literals) (empty_comes c (with_lines r lines)) (if has_living r c then r else registered_last c (with_lines r lines))
        (by-if IsUnsplit (has_none c.names) (with_refutation (registered_last c (with_lines r lines))) (with_propositional (line_names r.parts c.names) (with_lines r lines)) put put)
        (by-if IsUnsplit (has_living r c) r (registered_last c (with_lines r lines)) is put)

inputs-unsplit : (split : Bool) (i : ℕ) (cs : List TreeClause) (r : PoolRecord) → split ≡ false → IsUnsplit r → IsUnsplit (with_inputs split i cs r)
inputs-unsplit split i [] r unsplit is = is
inputs-unsplit split i (c ∷ cs) r unsplit is =
    let lines : List Line = line_of (Clausify i) c ∷ [] in
    inputs-unsplit split (suc i) cs (unless_ended (comes split lines c) r) unsplit
    (by-if IsUnsplit (is_none r.ended) (comes split lines c r) r (comes-unsplit split lines c r unsplit refl is) is)

-- ---- batches

module _ (options : Options) (unsplit : options.split ≡ false) where
  result-unsplit : (lines : List Line) (r : PoolRecord) → AreOnLiterals lines → IsUnsplit r → IsUnsplit (result_comes options.split r lines)
  result-unsplit lines r kinds is =
      by-if IsUnsplit (is_none r.ended) (comes_by options.split lines (result_of lines) r) r (by (result_of lines)) is
    where
      by : (o : Option TreeClause) → IsUnsplit (comes_by options.split lines o r)
      by None = is
      by (Some c) = comes-unsplit options.split (map (pool_line r) lines) c r unsplit (plain-lines r lines kinds) is

  results-unsplit :
      (results : List (List Line)) (r : PoolRecord) → AllByRecursion AreOnLiterals results → IsUnsplit r
      → IsUnsplit (fold (result_comes options.split) r results)
  results-unsplit [] r kinds is = is
  results-unsplit (lines ∷ results) r kinds is =
      results-unsplit results (result_comes options.split r lines) kinds.1 (result-unsplit lines r kinds.0 is)

  spends-unsplit :
      (o : Option (List Line)) (r : PoolRecord)
      → ((lines : List Line) → o ≡ Some lines → AreOnLiterals lines) → IsUnsplit r → IsUnsplit (spends options.split o r)
  spends-unsplit None r kinds is = is
  spends-unsplit (Some lines) r kinds is = result-unsplit lines r (kinds lines refl) is

  counts-unsplit :
      (keys : List Key) (results : List (List Line)) (r : PoolRecord) → AllByRecursion AreOnLiterals results → IsUnsplit r
      → IsUnsplit (counts options keys results r)
  counts-unsplit keys results r kinds is =
      let s : PoolRecord = record r { counted = r.counted ++ keys } in
      by-if IsUnsplit (nat_le options.inferences (length s.counted)) (spends options.split (find refutes results) s) (fold (result_comes options.split) s results)
      (spends-unsplit (find refutes results) s (λ lines found. found-holds AreOnLiterals refutes results lines kinds found) is)
      (results-unsplit results s kinds is)

  abbrev FateOnLiterals : Fate → Type 0
  FateOnLiterals fate = (lines : List Line) → lines_of_fate fate ≡ Some lines → AreOnLiterals lines

  removed-unsplit : (m : Removal) (r : PoolRecord) → FateOnLiterals m.fate → IsUnsplit r → IsUnsplit (removed options m r)
  removed-unsplit m r kinds is = by m.fate kinds
    where
      by : (fate : Fate) → FateOnLiterals fate → IsUnsplit (replaced options m.victim fate (dies m.victim m.justifiers r))
      by (Kept lines results) kinds =
          counts-unsplit (Replaced m.victim ∷ []) (lines ∷ []) (dies m.victim m.justifiers r) (kinds lines refl, tt) is
      by (Dropped redundancy) kinds = is
      by Heavy kinds = is

  proposed-unsplit :
      (ms : List Removal) (r : PoolRecord) → AllByRecursion (λ (m : Removal). FateOnLiterals m.fate) ms → IsUnsplit r
      → IsUnsplit (fold (proposed options) r ms)
  proposed-unsplit [] r kinds is = is
  proposed-unsplit (m ∷ ms) r kinds is =
      proposed-unsplit ms (proposed options r m) kinds.1
      (by-if IsUnsplit (takes_effect r m) (removed options m r) r (removed-unsplit m r kinds.0 is) is)

  module _ (usage : SymbolUse) (inputs : List TreeClause) (j : GivenJob) (r : PoolRecord) (sound : Sound usage inputs r) where
    entries-on : (results : List (List Line)) → AllByRecursion (Comes usage inputs r.registered) results → AllByRecursion AreOnLiterals results
    entries-on [] all = tt
    entries-on (lines ∷ results) all = (all.0.from.lines_right.kinds, entries-on results all.1)

    removals-on :
        (ms : List Removal) → AllByRecursion (λ (m : Removal). FateComes usage inputs options r.registered m.fate) ms
        → AllByRecursion (λ (m : Removal). FateOnLiterals m.fate) ms
    removals-on [] all = tt
    removals-on (m ∷ ms) all = (λ lines is. (all.0 lines is).from.lines_right.kinds, removals-on ms all.1)

    right-removals :
        (ms : List Removal) → AllByRecursion (IsRightRemoval usage.is_predicate options (clauses_of r) j) ms
        → AllByRecursion (λ (m : Removal). FateOnLiterals m.fate) ms
    right-removals ms right = removals-on ms (all-removals-come usage inputs options j r sound ms right)

    abbrev without : ℕ → PoolRecord
    without job = record r { given = without_job job r.given }

    worked-unsplit :
        (job : ℕ) (work : Work) → IsRightWork usage.is_predicate options (clauses_of r) j work → IsUnsplit r
        → IsUnsplit (worked options j.number work (without job))
    worked-unsplit job (Gone m) right is = removed-unsplit m (without job) (right-removals (m ∷ []) (right.right, tt)).0 is
    worked-unsplit job (Met entries removals) right is =
        let s : PoolRecord = sets_aside entries (becomes_active j.number (without job)) in
        proposed-unsplit removals (counts options (keys_of entries) (lines_of_entries entries) s)
        (right-removals removals (recursion_from_All (IsRightRemoval usage.is_predicate options (clauses_of r) j) removals right.right_removals))
        (counts-unsplit (keys_of entries) (lines_of_entries entries) s
        (entries-on (lines_of_entries entries)
        (all-entries-come usage inputs options j r sound entries
        (recursion_from_All (λ (e : Entry). IsRightFate usage.is_predicate options (clauses_of r) j e.key e.fate) entries right.right_entries)))
        is)

    returned-unsplit :
        (batch : Batch) (o : Option GivenJob) → o ≡ Some j → IsRightWork usage.is_predicate options (clauses_of r) j batch.work → IsUnsplit r
        → IsUnsplit (returns_to options batch o r)
    returned-unsplit batch o out right is =
        subst (λ p. IsUnsplit (returns_to options batch p r)) (sym out)
        (by-if IsUnsplit (is_none r.ended) (worked options j.number batch.work (without batch.job)) (becomes_active j.number (without batch.job))
        (worked-unsplit batch.job batch.work right is) is)

  -- ---- events

  claimed-unsplit : (job : ℕ) (o : Option ℕ) (r : PoolRecord) → IsUnsplit r → IsUnsplit (claimed_by options job o r)
  claimed-unsplit job None r is = is
  claimed-unsplit job (Some n) r is =
      by-if (λ s. IsUnsplit (given_out options job n s)) (has_number n r.positions) r (record r { positions = r.positions ++ n ∷ [] }) is is

  module _ (usage : SymbolUse) (inputs : List TreeClause) where
    after-unsplit :
        (r : PoolRecord) (e : Event) → IsAllowed usage.is_predicate options r e → Sound usage inputs r → r.parts ≡ [] → IsUnsplit r
        → IsUnsplit (after options r e)
    after-unsplit r (Claim job) allowed sound none is = claimed-unsplit job (next_given r) r is
    after-unsplit r (Return batch) allowed sound none is =
        returned-unsplit usage inputs allowed.given r sound batch (given_job r batch.job) allowed.out (allowed.says).2 is
    after-unsplit r (Stale job justifier) allowed sound none is = is
    after-unsplit r (Void job) allowed sound none is = is
    after-unsplit r (ClaimSolve job) allowed sound none is = absurd (true≢false (sym allowed.1 ∙ unsplit-solved usage inputs r sound none))
    after-unsplit r (ReturnModel job truths) allowed sound none is = absurd (none-some allowed.solver (sym is.0 ∙ allowed.out))
    after-unsplit r (ReturnRefuted job chains) allowed sound none is = absurd (none-some allowed.solver (sym is.0 ∙ allowed.out))
    after-unsplit r (Abandon job) allowed sound none is = (ap (without_solver job) is.0, is.1)

    history-unsplit :
        (es : List Event) (r : PoolRecord) → IsLawfulFrom usage.is_predicate options r es → Sound usage inputs r → r.parts ≡ [] → IsUnsplit r
        → IsUnsplit (fold (after options) r es)
    history-unsplit [] r lawful sound none is = is
    history-unsplit (e ∷ es) r lawful sound none is =
        history-unsplit es (after options r e) lawful.1 (after-sound usage inputs options r e lawful.0 sound)
        (unsplit-after options (e ∷ []) r unsplit none) (after-unsplit r e lawful.0 sound none is)

-- ---- histories

pub replay-unsplit :
    (usage : SymbolUse) (origin : Origin) (history : List Event)
    → AreInputs origin.inputs → IsUseOf origin.inputs usage → origin.options.split ≡ false → IsLawful usage.is_predicate origin history
    → IsUnsplit (replay origin history)
replay-unsplit usage origin history inputs used unsplit lawful =
    history-unsplit origin.options unsplit usage origin.inputs history (start origin) lawful (replay-sound usage origin [] inputs used tt)
    (unsplit-parts origin [] unsplit) (inputs-unsplit origin.options.split 0 origin.inputs nothing_registered unsplit (refl, refl))
