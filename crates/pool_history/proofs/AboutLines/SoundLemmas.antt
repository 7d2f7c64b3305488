-- Each event of a lawful history keeps the registered clauses whole and the lines a derivation.
use Rattle.std.proofs.Common.{◌≡◌, ℕ, ◌-◌, ◌<◌, ◌≤◌, Bool, true, false, ◌==◌, List, [], ◌∷◌, ◌++◌, map, length, refl, ap, ap₂, sym, ◌∙◌, subst, arith}
use Rattle.std.specs.Prelude.{Option, None, Some, is_none, slice_get, nat_le, flat_map, fold, find, All, if◌then◌else◌}
use Rattle.std.specs.List.{list_all, AllByRecursion, cons_option}
use Rattle.std.proofs.lemmas.Bool.{true≢false, and_parts, or_left, or_right, eqb-true, eq-eqb}
use Rattle.std.proofs.lemmas.List.Elements.{recursion_from_All, All-head}
use Rattle.std.proofs.lemmas.List.Folds.{list_any-append}
use Rattle.std.proofs.lemmas.Option.{none-some, same_Some}
use Rattle.plain_types.specs.declared.sequence.NameLit.{NameLit}
use Rattle.fol_base.specs.Tree.{true_symbol}
use Rattle.fol_base.specs.Clause.{TreeClause, clause_size}
use Rattle.fol_base.specs.Literal.{clause_of}
use Rattle.fol_base.specs.WellFormed.{SymbolUse}
use Rattle.fol_base.specs.declared.limits.TheConstants.{MOST_SYMBOLS}
use Rattle.fol_base.proofs.WorkedExamples.TestLemmas.{option_map-some, list_all-item}
use Rattle.kernel_steps.specs.Moves.{end_of_moves}
use Rattle.kernel_steps.specs.Split.{has_number, is_part, literals_at, canonical_literals}
use Rattle.kernel_steps.specs.Symbols.{literal_symbols_pass, clause_symbols_pass}
use Rattle.kernel_steps.specs.declared.key.Key.{Key}
use Rattle.kernel_steps.specs.declared.key.Key.TheVariants.{Replaced}
use Rattle.kernel_steps.specs.declared.step.Line.{Line}
use Rattle.kernel_steps.specs.Derivation.{under_names}
use Rattle.laws_calculus.specs.Lifting.{among}
use Rattle.pool_history.specs.Record.{PoolRecord, Registered, GivenJob, SolverJob, clauses_of, given_job, has_living, without_job}
use Rattle.pool_history.specs.Components.{components_of, parts_of, is_to_split}
use Rattle.pool_history.specs.Tags.{name_count, line_names}
use Rattle.pool_history.specs.Lines.{with_lines, pool_line, result_of}
use Rattle.pool_history.specs.Registering.{registered_last, has_none, with_refutation, with_propositional, empty_comes, split_up, comes}
use Rattle.pool_history.specs.Counting.{lines_of_fate, lines_of_entries, keys_of, comes_by, result_comes, refutes, spends, counts}
use Rattle.pool_history.specs.Returning.{dies, replaced, removed, takes_effect, proposed, becomes_active, sets_aside, worked, returns_to}
use Rattle.sat_core.specs.Answer.{IsRightLog}
use Rattle.sat_core.specs.declared.answer.Chain as log
use Rattle.pool_history.specs.Solving.{handed, cited_line, chain_step, with_step, modelled_by, refuted_by}
use Rattle.pool_history.specs.Claiming.{next_given, given_out, claimed_by}
use Rattle.pool_history.specs.Batches.{is_told, is_told_beside, IsRightFate, IsRightRemovalBy, IsRightRemoval, IsRightWork}
use Rattle.pool_history.specs.Replay.{without_solver, after}
use Rattle.pool_history.specs.Lawful.{IsAllowed, IsLawfulFrom}
use Rattle.pool_history.specs.Wholeness.{IsWhole}
use Rattle.pool_history.specs.declared.options.Options.{Options}
use Rattle.pool_history.specs.declared.outcome.Outcome.{Outcome}
use Rattle.pool_history.specs.declared.outcome.Outcome.TheVariants.{Refuted, Spent}
use Rattle.pool_history.specs.declared.batch.Batch.{Batch}
use Rattle.pool_history.specs.declared.batch.Entry.{Entry}
use Rattle.pool_history.specs.declared.batch.Fate.{Fate}
use Rattle.pool_history.specs.declared.batch.Fate.TheVariants.{Kept, Dropped, Heavy}
use Rattle.pool_history.specs.declared.batch.Removal.{Removal}
use Rattle.pool_history.specs.declared.batch.Work.{Work}
use Rattle.pool_history.specs.declared.batch.Work.TheVariants.{Gone, Met}
use Rattle.pool_history.specs.declared.event.Event.{Event}
use Rattle.pool_history.specs.declared.event.Event.TheVariants.{Claim, Return, Stale, Void, ClaimSolve, ReturnModel, ReturnRefuted, Abandon}
use Rattle.pool_history.proofs.AboutRecords.FrameLemmas.{by-if, result-registers}
use Rattle.pool_history.proofs.AboutRecords.GrowthLemmas.{all-proposed-grows, counts-grows}
use Rattle.pool_history.proofs.AboutLines.JoinedLemmas.{by-test, found-holds}
use Rattle.pool_history.proofs.AboutLines.FinestLemmas.{computed-finest}
use Rattle.pool_history.proofs.AboutLines.PartLemmas.{IsPart, one-part, some-literals, places-inside}
use Rattle.pool_history.proofs.AboutLines.PoolLineLemmas.{on_line, HasLine, Sound, Continue, EndsWith, ends_behind, continued-lines, continued-line, continued-sound, propositional-sound, Arrives, arrives-more, batch-continues}
use Rattle.pool_history.proofs.AboutLines.SplitSoundLemmas.{split_up-sound}
use Rattle.pool_history.proofs.AboutLines.RefutationLemmas.{refuted-sound}
use Rattle.pool_history.proofs.AboutLines.AssertionLemmas.{below-from}
use Rattle.pool_history.proofs.AboutLines.NameBoundLemmas.{line-names-below}
use Rattle.pool_history.proofs.AboutLines.SizeLemmas.{moves-size, conclusion-small}
use Rattle.pool_history.proofs.AboutRecords.ItemLemmas.{all-at}

none-in : {X : Type 0} (xs : List X) → has_none xs ≡ true → xs ≡ []
none-in [] h = refl
none-in (x ∷ xs) h = let none : length (x ∷ xs) ≡ 0 = eqb-true (length (x ∷ xs)) 0 h in absurd (omega (arith, none))

pub open-is : (o : Option Outcome) → is_none o ≡ true → o ≡ None
open-is None h = refl
open-is (Some outcome) h = absurd (true≢false (sym h))

module _ (usage : SymbolUse) (inputs : List TreeClause) where
  abbrev Holds : PoolRecord → Type 0
  Holds r = Sound usage inputs r

  abbrev pub Comes : List Registered → List Line → Type 0
  Comes registered lines = Arrives usage inputs registered lines

  -- ---- a clause that comes by lines

  -- its parts
  clause-parts : (r : PoolRecord) → Holds r → (c : TreeClause) (n : ℕ) → IsWhole usage (length r.parts) c → HasLine usage inputs r.parts r.lines (record { clause = c; line = n }) → AllByRecursion (IsPart usage inputs) (parts_of c.literals)
  clause-parts r sound c n whole line =
      all (components_of c.literals) (computed-finest c.literals).are_parts (places-inside c.literals)
    where
      passes :
          (test : ℕ → ℕ → Bool)
          → test true_symbol 0 ≡ true → list_all (clause_symbols_pass test) inputs ≡ true → list_all (literal_symbols_pass test) c.literals ≡ true
      passes test truth pass =
          ap (λ (d : TreeClause). clause_symbols_pass test d) (sym line.gives)
          ∙ list_all-item (λ (l : Line). clause_symbols_pass test (clause_of l.clause)) r.lines n line.line line.there (sound.made.symbols test truth pass).0

      all :
          (kss : List (List ℕ)) → list_all is_part kss ≡ true → ((j : ℕ) → has_number j (flat_map (λ ks. ks) kss) ≡ true → j < length c.literals)
          → AllByRecursion (IsPart usage inputs) (map (λ ks. canonical_literals (literals_at c.literals ks)) kss)
      all [] are inside = tt
      all (ks ∷ kss) are inside =
          let both = and_parts (is_part ks) (list_all is_part kss) are in
          let here : (j : ℕ) → has_number j ks ≡ true → j < length c.literals = λ j there.
          inside j
          (list_any-append (λ k. j == k) ks (flat_map (λ js. js) kss) ∙ or_left (has_number j ks) (has_number j (flat_map (λ js. js) kss)) there) in
          let later : (j : ℕ) → has_number j (flat_map (λ js. js) kss) ≡ true → j < length c.literals = λ j there.
          inside j
          (list_any-append (λ k. j == k) ks (flat_map (λ js. js) kss) ∙ or_right (has_number j ks) (has_number j (flat_map (λ js. js) kss)) there) in
          (one-part usage inputs c.literals ks whole.small whole.formed passes both.0 (some-literals c.literals ks both.0 here), all kss both.1 later)

  -- it is registered, or falls into parts, or gives a propositional clause, or refutes, or nothing changes
  pub comes-sound :
      (split : Bool) (lines : List Line) (c : TreeClause) (r : PoolRecord)
      → r.ended ≡ None → Holds r → Continue usage inputs r.parts r.lines lines c → Holds (comes split lines c r)
  comes-sound split lines c r is_open sound is =
      by-test Holds (has_none c.literals) (empty_comes c (with_lines r lines))
      (if is_to_split split c.literals then split_up c (with_lines r lines) else (if has_living r c then r else registered_last c (with_lines r lines)))
      empty-sound
      (λ some.
      by-if Holds (is_to_split split c.literals) (split_up c (with_lines r lines)) (if has_living r c then r else registered_last c (with_lines r lines))
      (split_up-sound usage inputs c (with_lines r lines) is_open put is.whole line
      (λ none. absurd (true≢false (sym (eq-eqb (length c.literals) 0 none) ∙ some)))
      (clause-parts (with_lines r lines) put c (length (r.lines ++ lines) - 1) is.whole line))
      (by-if Holds (has_living r c) r (registered_last c (with_lines r lines)) sound registered))
    where
      put : Holds (with_lines r lines)
      put = continued-lines usage inputs r lines c is_open sound is

      line : HasLine usage inputs r.parts (r.lines ++ lines) (record { clause = c; line = length (r.lines ++ lines) - 1 })
      line = continued-line usage inputs r lines c is

      registered : Holds (registered_last c (with_lines r lines))
      registered = continued-sound usage inputs r lines c is_open sound is

      -- who asserts a part has one
      some-part : (ns : List NameLit) → All (λ n. n.name < length r.parts) ns → has_none ns ≡ false → r.parts ≡ [] → ⊥
      some-part [] met asserted none = true≢false asserted
      some-part (n ∷ ns) met asserted none =
          let below : n.name < length r.parts = All-head (λ m. m.name < length r.parts) n ns met in
          let count : length r.parts ≡ 0 = ap length none in
          absurd (omega (arith, below, count))

      -- the last line
      ends : EndsWith usage inputs (r.lines ++ lines) (on_line r.parts c)
      ends = ends_behind usage inputs r.lines lines (on_line r.parts c) is.ends

      empty-sound : has_none c.literals ≡ true → Holds (empty_comes c (with_lines r lines))
      empty-sound none =
          let bare : c.literals ≡ [] = none-in c.literals none in
          by-test Holds (has_none c.names) (with_refutation (registered_last c (with_lines r lines))) (with_propositional (line_names r.parts c.names) (with_lines r lines))
          (λ nameless.
          let without : line_names r.parts c.names ≡ [] = ap (line_names r.parts) (none-in c.names nameless) in
          record {
            whole = registered.whole;
            lined = registered.lined;
            made = registered.made;
            named = registered.named;
            over_names = registered.over_names;
            handed_few = registered.handed_few;
            bare = registered.bare;
            below = registered.below;
            refuted = λ h. subst (EndsWith usage inputs (r.lines ++ lines)) (ap₂ under_names bare without) ends;
          })
          (λ asserted.
          propositional-sound usage inputs (with_lines r lines) (line_names r.parts c.names) put (some-part c.names is.whole.met asserted)
          (line-names-below r.parts c.names (below-from (length r.parts) c.names is.whole.asserts.negative is.whole.met))
          (subst (λ ls. EndsWith usage inputs (r.lines ++ lines) (under_names ls (line_names r.parts c.names))) bare ends))

  -- ---- results of a batch

  module _ (options : Options) where
    result-sound : (lines : List Line) (r : PoolRecord) → Comes r.registered lines → Holds r → Holds (result_comes options.split r lines)
    result-sound lines r arrives sound =
        by-test Holds (is_none r.ended) (comes_by options.split lines (result_of lines) r) r
        (λ is_open. by (result_of lines) refl (open-is r.ended is_open)) (λ ended. sound)
      where
        by : (o : Option TreeClause) → result_of lines ≡ o → r.ended ≡ None → Holds (comes_by options.split lines o r)
        by None led is_open = sound
        by (Some c) led is_open =
            comes-sound options.split (map (pool_line r) lines) c r is_open sound (batch-continues usage inputs r sound lines arrives c led)

    later-comes : (r s : PoolRecord) → ((cs : List Registered) × (s.registered ≡ r.registered ++ cs)) → (lines : List Line) → Comes r.registered lines → Comes s.registered lines
    later-comes r s more lines arrives = subst (λ xs. Comes xs lines) (sym more.1) (arrives-more usage inputs r.registered more.0 lines arrives)

    all-later :
        (r s : PoolRecord) → ((cs : List Registered) × (s.registered ≡ r.registered ++ cs)) → (results : List (List Line))
        → AllByRecursion (Comes r.registered) results → AllByRecursion (Comes s.registered) results
    all-later r s more [] all = tt
    all-later r s more (lines ∷ rest) all = (later-comes r s more lines all.0, all-later r s more rest all.1)

    results-sound :
        (results : List (List Line)) (r : PoolRecord)
        → AllByRecursion (Comes r.registered) results → Holds r → Holds (fold (result_comes options.split) r results)
    results-sound [] r all sound = sound
    results-sound (lines ∷ rest) r all sound =
        results-sound rest (result_comes options.split r lines)
        (all-later r (result_comes options.split r lines) (result-registers options.split r lines).more rest all.1) (result-sound lines r all.0 sound)

    spends-sound :
        (o : Option (List Line)) (r : PoolRecord)
        → ((lines : List Line) → o ≡ Some lines → Comes r.registered lines) → Holds r → Holds (spends options.split o r)
    spends-sound None r all sound = record {
      whole = sound.whole;
      lined = sound.lined;
      made = sound.made;
      named = sound.named;
      over_names = sound.over_names;
      handed_few = sound.handed_few;
      bare = sound.bare;
      below = sound.below;
      refuted = λ (h : Some (Spent (length r.counted)) ≡ Some Refuted). absurd (spent-not-refuted (length r.counted) h);
    }
      where
        spent-not-refuted : (n : ℕ) → Some (Spent n) ≡ Some Refuted → ⊥
        spent-not-refuted n h = cc
    spends-sound (Some lines) r all sound = result-sound lines r (all lines refl) sound

    counts-sound :
        (keys : List Key) (results : List (List Line)) (r : PoolRecord)
        → AllByRecursion (Comes r.registered) results → Holds r → Holds (counts options keys results r)
    counts-sound keys results r all sound =
        let s : PoolRecord = record r { counted = r.counted ++ keys } in
        by-if Holds (nat_le options.inferences (length s.counted)) (spends options.split (find refutes results) s) (fold (result_comes options.split) s results)
        (spends-sound (find refutes results) s (λ lines found. found-holds (Comes r.registered) refutes results lines all found) sound)
        (results-sound results s all sound)

    -- ---- removals

    -- the lines of a fate, if it has any
    abbrev pub FateComes : List Registered → Fate → Type 0
    FateComes registered fate = (lines : List Line) → lines_of_fate fate ≡ Some lines → Comes registered lines

    removed-sound : (m : Removal) (r : PoolRecord) → FateComes r.registered m.fate → Holds r → Holds (removed options m r)
    removed-sound m r fate sound = by m.fate fate
      where
        by : (fate : Fate) → FateComes r.registered fate → Holds (replaced options m.victim fate (dies m.victim m.justifiers r))
        by (Kept lines results) comes =
            counts-sound (Replaced m.victim ∷ []) (lines ∷ []) (dies m.victim m.justifiers r) (comes lines refl, tt) sound
        by (Dropped redundancy) comes = sound
        by Heavy comes = sound

    all-proposed-sound :
        (ms : List Removal) (r : PoolRecord)
        → AllByRecursion (λ (m : Removal). FateComes r.registered m.fate) ms → Holds r → Holds (fold (proposed options) r ms)
    all-proposed-sound [] r all sound = sound
    all-proposed-sound (m ∷ ms) r all sound =
        all-proposed-sound ms (proposed options r m) (later ms all.1)
        (by-if Holds (takes_effect r m) (removed options m r) r (removed-sound m r all.0 sound) sound)
      where
        later :
            (ms : List Removal) → AllByRecursion (λ (m : Removal). FateComes r.registered m.fate) ms
            → AllByRecursion (λ (n : Removal). FateComes (proposed options r m).registered n.fate) ms
        later [] all = tt
        later (n ∷ ns) all =
            (λ lines is. later-comes r (proposed options r m) (all-proposed-grows options (m ∷ []) r).clauses lines (all.0 lines is), later ns all.1)

    -- ---- right batches

    module _ (j : GivenJob) (r : PoolRecord) (sound : Holds r) where
      told-there :
          (n : ℕ) (c : TreeClause) → among (is_told j) (clauses_of r) n ≡ Some c
          → (x : Registered) × (slice_get r.registered n ≡ Some x) × (x.clause ≡ c)
      told-there n c there = by (is_told j n) there
        where
          by : (b : Bool) → (if b then clauses_of r n else None) ≡ Some c → (x : Registered) × (slice_get r.registered n ≡ Some x) × (x.clause ≡ c)
          by false h = absurd (none-some c h)
          by true h = option_map-some (λ (x : Registered). x.clause) (slice_get r.registered n) c h λ x x_is gives. (x, x_is, gives)

      result-is : (lines : List Line) (result c : TreeClause) → result_of lines ≡ Some result → result_of lines ≡ Some c → clause_size result ≤ MOST_SYMBOLS → clause_size c ≤ MOST_SYMBOLS
      result-is lines result c led is small =
          let same : clause_size result ≡ clause_size c = ap clause_size (same_Some result c (sym led ∙ is)) in omega (arith, same, small)

      entry-comes : (key : Key) (fate : Fate) → IsRightFate usage.is_predicate options (clauses_of r) j key fate → FateComes r.registered fate
      entry-comes key (Kept lines results) right others is = subst (Comes r.registered) (same_Some lines others is) (record {
        clauses = among (is_told j) (clauses_of r);
        there = told-there;
        from = right.are_lines;
        small =
            λ c led.
            let first = conclusion-small usage.is_predicate options (among (is_told j) (clauses_of r)) key (clause_of right.first.clause) right.inferred in
            let less = moves-size usage.is_predicate (among (is_told j) (clauses_of r)) (clause_of right.first.clause) right.moves right.reduced.moved in
            let same : clause_size (end_of_moves (clause_of right.first.clause) right.moves) ≡ clause_size right.result = ap clause_size right.reduced.ends in
            result-is lines right.result c right.reduced.led led (omega (arith, first, less, same));
      })
      entry-comes key (Dropped redundancy) right lines is = absurd (none-some lines is)
      entry-comes key Heavy right lines is = absurd (none-some lines is)

      removal-comes :
          (victim : ℕ) (justifiers : List ℕ) (fate : Fate)
          → IsRightRemovalBy usage.is_predicate options (clauses_of r) j victim justifiers fate → FateComes r.registered fate
      removal-comes victim justifiers (Kept lines results) right others is = subst (Comes r.registered) (same_Some lines others is) (record {
        clauses = among (is_told j) (clauses_of r);
        there = told-there;
        from = right.are_lines;
        small =
            λ c led.
            let at = told-there victim right.clause right.there in
            let whole = all-at (λ (x : Registered). IsWhole usage (length r.parts) x.clause) r.registered victim at.0 sound.whole at.1 in
            let there : clause_size at.0.clause ≡ clause_size right.clause = ap clause_size at.2 in
            let less = moves-size usage.is_predicate (among (is_told_beside j victim) (clauses_of r)) right.clause (right.move ∷ right.moves) right.reduced.moved in
            let same : clause_size (end_of_moves right.clause (right.move ∷ right.moves)) ≡ clause_size right.result = ap clause_size right.reduced.ends in
            let small : clause_size at.0.clause ≤ MOST_SYMBOLS = whole.small in
            result-is lines right.result c right.reduced.led led (omega (arith, there, less, same, small));
      })
      removal-comes victim justifiers (Dropped redundancy) right lines is = absurd (none-some lines is)
      removal-comes victim justifiers Heavy right lines is = absurd right

      pub all-entries-come :
          (entries : List Entry) → AllByRecursion (λ (e : Entry). IsRightFate usage.is_predicate options (clauses_of r) j e.key e.fate) entries
          → AllByRecursion (Comes r.registered) (lines_of_entries entries)
      all-entries-come [] right = tt
      all-entries-come (e ∷ es) right = by e.fate (entry-comes e.key e.fate right.0) (all-entries-come es right.1)
        where
          by :
              (fate : Fate) → FateComes r.registered fate → AllByRecursion (Comes r.registered) (lines_of_entries es)
              → AllByRecursion (Comes r.registered) (cons_option (lines_of_fate fate) (lines_of_entries es))
          by (Kept lines results) comes rest = (comes lines refl, rest)
          by (Dropped redundancy) comes rest = rest
          by Heavy comes rest = rest

      pub all-removals-come :
          (ms : List Removal) → AllByRecursion (IsRightRemoval usage.is_predicate options (clauses_of r) j) ms
          → AllByRecursion (λ (m : Removal). FateComes r.registered m.fate) ms
      all-removals-come [] right = tt
      all-removals-come (m ∷ ms) right = (removal-comes m.victim m.justifiers m.fate right.0, all-removals-come ms right.1)

    abbrev without : ℕ → PoolRecord → PoolRecord
    without job r = record r { given = without_job job r.given }

    worked-sound :
        (job : ℕ) (j : GivenJob) (work : Work) (r : PoolRecord)
        → IsRightWork usage.is_predicate options (clauses_of r) j work → Holds r → Holds (worked options j.number work (without job r))
    worked-sound job j (Gone m) r right sound = removed-sound m (without job r) (removal-comes j r sound m.victim m.justifiers m.fate right.right) sound
    worked-sound job j (Met entries removals) r right sound =
        let s : PoolRecord = sets_aside entries (becomes_active j.number (without job r)) in
        let t : PoolRecord = counts options (keys_of entries) (lines_of_entries entries) s in
        all-proposed-sound removals t
        (later-removals t (counts-grows options (keys_of entries) (lines_of_entries entries) s).clauses removals
        (all-removals-come j r sound removals (recursion_from_All (IsRightRemoval usage.is_predicate options (clauses_of r) j) removals right.right_removals)))
        (counts-sound (keys_of entries) (lines_of_entries entries) s
        (all-entries-come j r sound entries
        (recursion_from_All (λ (e : Entry). IsRightFate usage.is_predicate options (clauses_of r) j e.key e.fate) entries right.right_entries)) sound)
      where
        later-removals :
            (s : PoolRecord) → ((cs : List Registered) × (s.registered ≡ r.registered ++ cs)) → (ms : List Removal)
            → AllByRecursion (λ (m : Removal). FateComes r.registered m.fate) ms → AllByRecursion (λ (m : Removal). FateComes s.registered m.fate) ms
        later-removals s more [] all = tt
        later-removals s more (m ∷ ms) all = (λ lines is. later-comes r s more lines (all.0 lines is), later-removals s more ms all.1)

    returned-sound :
        (batch : Batch) (o : Option GivenJob) (j : GivenJob) (r : PoolRecord)
        → o ≡ Some j → IsRightWork usage.is_predicate options (clauses_of r) j batch.work → Holds r → Holds (returns_to options batch o r)
    returned-sound batch o j r out right sound =
        subst (λ p. Holds (returns_to options batch p r)) (sym out)
        (by-if Holds (is_none r.ended) (worked options j.number batch.work (without batch.job r)) (becomes_active j.number (without batch.job r))
        (worked-sound batch.job j batch.work r right sound) sound)

    -- ---- events

    claimed-sound : (job : ℕ) (o : Option ℕ) (r : PoolRecord) → Holds r → Holds (claimed_by options job o r)
    claimed-sound job None r sound = sound
    claimed-sound job (Some n) r sound =
        by-if (λ s. Holds (given_out options job n s)) (has_number n r.positions) r (record r { positions = r.positions ++ n ∷ [] }) sound sound

    without-solver : (r : PoolRecord) → Holds r → Holds (record r { solver = None })
    without-solver r sound = record {
      whole = sound.whole;
      lined = sound.lined;
      made = sound.made;
      named = sound.named;
      over_names = sound.over_names;
      handed_few = λ s none. absurd (none-some s none);
      bare = sound.bare;
      below = sound.below;
      refuted = sound.refuted;
    }

    modelled-sound : (o : Option SolverJob) (truths : List Bool) (r : PoolRecord) → Holds r → Holds (modelled_by o truths r)
    modelled-sound None truths r sound = sound
    modelled-sound (Some s) truths r sound = without-solver r sound

    refutation-sound :
        (o : Option SolverJob) (s : SolverJob) (chains : List log.Chain) (r : PoolRecord)
        → r.solver ≡ Some s → o ≡ Some s → IsRightLog (handed r s) chains → Holds r → Holds (refuted_by o chains r)
    refutation-sound o s chains r out is right sound =
        subst (λ p. Holds (refuted_by p chains r)) (sym is)
        (by-test Holds (is_none r.ended)
        (record r { solver = None; lines = fold with_step r.lines (map (chain_step (cited_line r s (length r.lines))) chains); ended = Some Refuted })
        (record r { solver = None })
        (λ is_open. refuted-sound usage inputs r s chains (open-is r.ended is_open) out sound right)
        (λ ended. without-solver r sound))

    pub after-sound : (r : PoolRecord) (e : Event) → IsAllowed usage.is_predicate options r e → Holds r → Holds (after options r e)
    after-sound r (Claim job) allowed sound = claimed-sound job (next_given r) r sound
    after-sound r (Return batch) allowed sound = returned-sound batch (given_job r batch.job) allowed.given r allowed.out (allowed.says).2 sound
    after-sound r (Stale job justifier) allowed sound = sound
    after-sound r (Void job) allowed sound = sound
    after-sound r (ClaimSolve job) allowed sound = record {
      whole = sound.whole;
      lined = sound.lined;
      made = sound.made;
      named = sound.named;
      over_names = sound.over_names;
      handed_few =
          λ s same.
          let all : length r.propositional ≡ s.clauses =
          ap (λ (j : SolverJob). j.clauses) (same_Some (record { job = job; clauses = length r.propositional; names = name_count r.parts }) s same) in
          omega (arith, all);
      bare = sound.bare;
      below = sound.below;
      refuted = sound.refuted;
    }
    after-sound r (ReturnModel job truths) allowed sound = modelled-sound r.solver truths r sound
    after-sound r (ReturnRefuted job chains) allowed sound =
        refutation-sound r.solver allowed.solver chains r allowed.out allowed.out allowed.says sound
    after-sound r (Abandon job) allowed sound = record {
      whole = sound.whole;
      lined = sound.lined;
      made = sound.made;
      named = sound.named;
      over_names = sound.over_names;
      handed_few = kept r.solver sound.handed_few;
      bare = sound.bare;
      below = sound.below;
      refuted = sound.refuted;
    }
      where
        kept :
            (o : Option SolverJob) → ((s : SolverJob) → o ≡ Some s → s.clauses ≤ length r.propositional)
            → (s : SolverJob) → without_solver job o ≡ Some s → s.clauses ≤ length r.propositional
        kept None few s same = absurd (none-some s same)
        kept (Some j) few s same = by (j.job == job) same
          where
            by : (b : Bool) → (if b then None else Some j) ≡ Some s → s.clauses ≤ length r.propositional
            by true h = absurd (none-some s h)
            by false h = few s h

    pub history-sound :
        (es : List Event) (r : PoolRecord) → IsLawfulFrom usage.is_predicate options r es → Holds r → Holds (fold (after options) r es)
    history-sound [] r lawful sound = sound
    history-sound (e ∷ es) r lawful sound = history-sound es (after options r e) lawful.1 (after-sound r e lawful.0 sound)
