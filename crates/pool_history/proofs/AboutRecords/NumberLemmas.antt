-- Numbers: few clauses are registered, so clauses and positions have 32 bits; positions stay; and jobs are counted.
use Rattle.std.proofs.Common.{◌≡◌, ◌≢◌, ℕ, suc, ◌+◌, ◌-◌, ◌*◌, ◌^◌, ◌<◌, ◌≤◌, Bool, true, false, ◌&&◌, ◌==◌, List, [], ◌∷◌, ◌++◌, map, length, refl, ap, sym, ◌∙◌, subst, ⊎_elim, arith}
use Rattle.std.specs.Prelude.{Option, None, Some, cond, is_none, nat_le, nat_lt, fold, find, filter, AllPairs, sum_by, if◌then◌else◌}
use Rattle.std.specs.List.{list_any, list_all, cons_option, AllByRecursion}
use Rattle.std.proofs.lemmas.Bool.{true≢false, and_parts, or_cases, leb-false, ltb-true, eqb-true}
use Rattle.std.proofs.lemmas.Bool.Decides.{Decides-eqb}
use Rattle.std.proofs.lemmas.List.{length-append}
use Rattle.std.proofs.lemmas.List.Elements.{recursion_from_All}
use Rattle.std.proofs.lemmas.List.FromFn.{length-range_with_len}
use Rattle.std.proofs.lemmas.List.Sums.{sum_by-cons}
use Rattle.std.proofs.lemmas.Map.Made.{IsDistinct-from_AllPairs}
use Rattle.std.proofs.lemmas.Map.Steps.{length-le_from_distinct_below}
use Rattle.std.proofs.lemmas.Option.{none-some, same_Some}
use Rattle.plain_types.specs.declared.limits.TheConstants.{MOST_INFERENCES}
use Rattle.fol_base.specs.Clause.{TreeLiteral, TreeClause, clause_size, literal_size}
use Rattle.fol_base.specs.WellFormed.{SymbolUse}
use Rattle.fol_base.proofs.AboutTerms.TreeLemmas.{tree_size-positive}
use Rattle.fol_base.specs.declared.limits.TheConstants.{MOST_SYMBOLS, MOST_FORM_SYMBOLS}
use Rattle.plain_types.specs.declared.sequence.NameLit.{NameLit}
use Rattle.plain_types.specs.Names.{negative_of}
use Rattle.kernel_steps.specs.Names.{sorted_names}
use Rattle.kernel_steps.specs.Derivation.{under_names}
use Rattle.kernel_steps.specs.Split.{has_number, literals_at, canonical_literals}
use Rattle.split_parts.specs.Tags.{has_part, with_part, tag_of}
use Rattle.split_parts.specs.SignedNames.{signed_name}
use Rattle.pool_history.specs.Components.{places, component_of, begins_at, components_of, parts_of, is_to_split}
use Rattle.pool_history.specs.Tags.{line_names}
use Rattle.pool_history.specs.Batches.{IsRightFate, IsRightRemoval, IsRightWork}
use Rattle.pool_history.specs.Lawful.{IsAllowed, IsLawfulFrom, IsLawful}
use Rattle.kernel_steps.specs.declared.key.Key.{Key}
use Rattle.kernel_steps.specs.declared.key.Key.TheVariants.{Replaced}
use Rattle.kernel_steps.specs.declared.step.Step.TheVariants.{Clausify, Split}
use Rattle.kernel_steps.specs.declared.step.Line.{Line}
use Rattle.sat_core.specs.declared.answer.Chain as log
use Rattle.pool_history.specs.Record.{PoolRecord, Registered, GivenJob, SolverJob, clauses_of, has_living, lives, given_job, without_job, nothing_registered}
use Rattle.pool_history.specs.Lines.{with_lines, last_number, definition_of, pool_line, result_of}
use Rattle.kernel_steps.specs.FromTrees.{line_of}
use Rattle.pool_history.specs.Registering.{registered_by, registered_unless_living, registered_last, with_propositional, with_new_part, with_tag, with_part_clause, with_split, split_up, has_none, with_refutation, empty_comes, comes, unless_ended, with_inputs}
use Rattle.pool_history.specs.Counting.{lines_of_fate, lines_of_entries, keys_of, comes_by, result_comes, is_refuting, refutes, spends, counts}
use Rattle.pool_history.specs.Returning.{dies, replaced, removed, takes_effect, proposed, becomes_active, sets_aside, worked, returns_to}
use Rattle.pool_history.specs.Solving.{modelled_by, refuted_by}
use Rattle.pool_history.specs.Claiming.{next_given, given_out, claimed_by}
use Rattle.pool_history.specs.Inputs.{AreInputs, IsLimit, IsUseOf}
use Rattle.pool_history.specs.Laws.{NumbersFit, TagsFit}
use Rattle.pool_history.specs.Replay.{Origin, after, start, replay}
use Rattle.pool_history.specs.declared.options.Options.{Options}
use Rattle.pool_history.specs.declared.outcome.Outcome.{Outcome}
use Rattle.pool_history.specs.declared.outcome.Outcome.TheVariants.{Refuted, Spent}
use Rattle.pool_history.specs.declared.batch.Batch.{Batch}
use Rattle.pool_history.specs.declared.batch.Entry.{Entry}
use Rattle.pool_history.specs.declared.batch.Fate.{Fate}
use Rattle.pool_history.specs.declared.batch.Fate.TheVariants.{Kept, Dropped, Heavy}
use Rattle.pool_history.specs.declared.batch.Removal.{Removal}
use Rattle.pool_history.specs.declared.batch.Work.{Work}
use Rattle.pool_history.specs.declared.batch.Work.TheVariants.{Gone, Met}
use Rattle.pool_history.specs.declared.event.Event.{Event}
use Rattle.pool_history.specs.declared.event.Event.TheVariants.{Claim, Return, Stale, Void, ClaimSolve, ReturnModel, ReturnRefuted, Abandon}
use Rattle.pool_history.proofs.AboutRecords.FrameLemmas.{by-if, inputs-register, results-register}
use Rattle.pool_history.proofs.AboutLines.JoinedLemmas.{by-test, found-holds}
use Rattle.pool_history.proofs.AboutRecords.PlaceLemmas.{positions_are_registered}
use Rattle.pool_history.proofs.AboutLines.PoolLineLemmas.{Sound}
use Rattle.pool_history.proofs.AboutLines.SoundLemmas.{open-is, Comes, FateComes, all-entries-come, all-removals-come, after-sound}
use Rattle.pool_history.proofs.AboutLines.BeginningLemmas.{replay-sound}

-- ---- few clauses

-- a clause has at most half as many literals as symbols
few-literals : (ls : List TreeLiteral) → 2 * length ls ≤ sum_by literal_size ls
few-literals [] = omega arith
few-literals (l ∷ ls) =
    let rest = few-literals ls in
    let whole = sum_by-cons literal_size l ls in
    let left = tree_size-positive l.left in
    let right = tree_size-positive l.right in
    omega (arith, rest, whole, left, right)

few-parts : (ls : List TreeLiteral) → length (parts_of ls) ≤ length ls
few-parts ls =
    let parts : length (parts_of ls) ≡ length (components_of ls) = mapped (λ ks. canonical_literals (literals_at ls ks)) (components_of ls) in
    let firsts : List ℕ = filter (λ k. begins_at k (component_of ls k)) (places ls) in
    let components : length (components_of ls) ≡ length firsts = mapped (component_of ls) firsts in
    let fewer = filtered (λ k. begins_at k (component_of ls k)) (places ls) in
    let count : length (places ls) ≡ length ls = length-range_with_len 0 (length ls) in
    omega (arith, parts, components, fewer, count)
  where
    mapped : {X Y : Type 0} (f : X → Y) (xs : List X) → length (map f xs) ≡ length xs
    mapped f [] = refl
    mapped f (x ∷ xs) = ap suc (mapped f xs)

    filtered : (p : ℕ → Bool) (xs : List ℕ) → length (filter p xs) ≤ length xs
    filtered p [] = omega arith
    filtered p (x ∷ xs) =
        let rest = filtered p xs in
        by-if (λ (ys : List ℕ). length ys ≤ suc (length xs)) (p x) (x ∷ filter p xs) (filter p xs) (omega (arith, rest)) (omega (arith, rest))

-- how many clauses are registered and how many parts have tags
abbrev size : PoolRecord → ℕ
size r = length r.registered + length r.parts

-- a clause that falls into parts brings a tag and a registered clause for each part at most
tags-count : (ps : List (List TreeLiteral)) (r : PoolRecord) → size (fold with_tag r ps) ≤ size r + length ps
tags-count [] r = omega arith
tags-count (p ∷ ps) r =
    let rest = tags-count ps (with_tag r p) in
    let more : length (with_part r.parts p) ≤ length r.parts + 1 =
    by-if (λ (qs : List (List TreeLiteral)). length qs ≤ length r.parts + 1) (has_part p r.parts) r.parts (r.parts ++ p ∷ []) (omega arith)
    (let count = length-append r.parts (p ∷ []) in omega (arith, count)) in
    let one : size (with_tag r p) ≤ size r + 1 =
    by-if (λ (s : PoolRecord). size s ≤ size r + 1) (has_part p r.parts) r (with_new_part p (with_part r.parts p) r) (omega arith) (omega (arith, more)) in
    omega (arith, rest, one)

parts-count : (ps : List (List TreeLiteral)) (r : PoolRecord) → size (fold with_part_clause r ps) ≤ size r + length ps
parts-count [] r = omega arith
parts-count (p ∷ ps) r =
    let rest = parts-count ps (with_part_clause r p) in
    let one = part-count (definition_of r.lines (signed_name r.parts p)) (under_names p (negative_of (tag_of r.parts p) ∷ [])) r in
    omega (arith, rest, one)
  where
    part-count : (line : ℕ) (c : TreeClause) (r : PoolRecord) → size (registered_unless_living line c r) ≤ size r + 1
    part-count line c r =
        by-if (λ (s : PoolRecord). size s ≤ size r + 1) (has_living r c) r (registered_by line c r) (omega arith)
        (let x : Registered = record { clause = c; line = line } in
        let count : length (r.registered ++ x ∷ []) ≡ length r.registered + 1 = length-append r.registered (x ∷ []) in
        omega (arith, count))

split-count : (c : TreeClause) (r : PoolRecord) → size (split_up c r) ≤ size r + 2 * length c.literals
split-count c r =
    let ps : List (List TreeLiteral) = parts_of c.literals in
    let s : PoolRecord = fold with_tag r ps in
    let names : List NameLit = map (signed_name s.parts) ps in
    let t : PoolRecord =
    with_split (Split (last_number r) (map (definition_of s.lines) names) (components_of c.literals)) (sorted_names (line_names s.parts c.names ++ names)) s in
    let tagged = tags-count ps r in
    let all : size (split_up c r) ≤ size s + length ps = parts-count ps t in
    let few = few-parts c.literals in
    omega (arith, tagged, all, few)

-- so a clause that comes by its lines is registered once, or brings two for each literal at most
one-comes : (split : Bool) (lines : List Line) (c : TreeClause) (r : PoolRecord) → size (comes split lines c r) ≤ size r + (1 + 2 * length c.literals)
one-comes split lines c r =
    by-if (λ (s : PoolRecord). size s ≤ size r + (1 + 2 * length c.literals)) (has_none c.literals) (empty_comes c (with_lines r lines)) _
    (by-if (λ (s : PoolRecord). size s ≤ size r + (1 + 2 * length c.literals)) (has_none c.names) (with_refutation (registered_last c (with_lines r lines))) (with_propositional (line_names r.parts c.names) (with_lines r lines)) registered (omega arith))
    (by-if (λ (s : PoolRecord). size s ≤ size r + (1 + 2 * length c.literals)) (is_to_split split c.literals) (split_up c (with_lines r lines)) (if has_living r c then r else registered_last c (with_lines r lines))
    (let parts = split-count c (with_lines r lines) in omega (arith, parts))
    (by-if (λ (s : PoolRecord). size s ≤ size r + (1 + 2 * length c.literals)) (has_living r c) r (registered_last c (with_lines r lines)) (omega arith) registered))
  where
    registered : size (registered_last c (with_lines r lines)) ≤ size r + (1 + 2 * length c.literals)
    registered =
        let x : Registered = record { clause = c; line = length (r.lines ++ lines) - 1 } in
        let count : length (r.registered ++ x ∷ []) ≡ length r.registered + 1 = length-append r.registered (x ∷ []) in
        omega (arith, count)

-- the result to which lines lead isn't too large
abbrev LeadsToSmall : List Line → Type 0
LeadsToSmall lines = (c : TreeClause) → result_of lines ≡ Some c → clause_size c ≤ MOST_SYMBOLS

one-result : (split : Bool) (lines : List Line) (r : PoolRecord) → LeadsToSmall lines → size (result_comes split r lines) ≤ size r + 4001
one-result split lines r small =
    by-if (λ (s : PoolRecord). size s ≤ size r + 4001) (is_none r.ended) (comes_by split lines (result_of lines) r) r
    (by (result_of lines) refl) (omega arith)
  where
    by : (o : Option TreeClause) → result_of lines ≡ o → size (comes_by split lines o r) ≤ size r + 4001
    by None led = omega arith
    by (Some c) led =
        let one = one-comes split (map (pool_line r) lines) c r in
        let few = few-literals c.literals in
        let less = small c led in
        omega (arith, one, few, less)

all-results :
    (split : Bool) (results : List (List Line)) (r : PoolRecord)
    → AllByRecursion LeadsToSmall results → size (fold (result_comes split) r results) ≤ size r + 4001 * length results
all-results split [] r small = omega arith
all-results split (lines ∷ rest) r small =
    let first = one-result split lines r small.0 in
    let later = all-results split rest (result_comes split r lines) small.1 in
    omega (arith, first, later)

all-inputs :
    (split : Bool) (i : ℕ) (cs : List TreeClause) (r : PoolRecord)
    → size (with_inputs split i cs r) ≤ size r + (sum_by clause_size cs + length cs)
all-inputs split i [] r = omega arith
all-inputs split i (c ∷ cs) r =
    let lines : List Line = line_of (Clausify i) c ∷ [] in
    let s : PoolRecord = unless_ended (comes split lines c) r in
    let first : size s ≤ size r + (1 + 2 * length c.literals) =
    by-if (λ (t : PoolRecord). size t ≤ size r + (1 + 2 * length c.literals)) (is_none r.ended) (comes split lines c r) r (one-comes split lines c r) (omega arith) in
    let later = all-inputs split (suc i) cs s in
    let few = few-literals c.literals in
    let whole = sum_by-cons clause_size c cs in
    omega (arith, first, later, few, whole)

-- entries have no more results than keys
few-results : (entries : List Entry) → length (lines_of_entries entries) ≤ length (keys_of entries)
few-results [] = omega arith
few-results (e ∷ es) = by e.fate (few-results es)
  where
    by : (fate : Fate) → length (lines_of_entries es) ≤ length (keys_of es) → length (cons_option (lines_of_fate fate) (lines_of_entries es)) ≤ suc (length (keys_of es))
    by (Kept lines results) rest = omega (arith, rest)
    by (Dropped redundancy) rest = omega (arith, rest)
    by Heavy rest = omega (arith, rest)

-- the empty clause ends the pool
find-passes : {X : Type 0} (p : X → Bool) (xs : List X) (x : X) → find p xs ≡ Some x → p x ≡ true
find-passes p [] x found = absurd (none-some x found)
find-passes p (y ∷ ys) x found = by (p y) refl found (find-passes p ys x)
  where
    by : (b : Bool) → p y ≡ b → cond b (Some y) (find p ys) ≡ Some x → (find p ys ≡ Some x → p x ≡ true) → p x ≡ true
    by true is here rest = ap p (sym (same_Some y x here)) ∙ is
    by false is later rest = rest later

refuting-ends : (split : Bool) (lines : List Line) (r : PoolRecord) → refutes lines ≡ true → (result_comes split r lines).ended ≡ None → ⊥
refuting-ends split lines r refuting =
    by-test (λ (s : PoolRecord). s.ended ≡ None → ⊥) (is_none r.ended) (comes_by split lines (result_of lines) r) r
    (λ is_open. by (result_of lines) refuting)
    (λ ended is_open. true≢false (sym (ap is_none is_open) ∙ ended))
  where
    by : (o : Option TreeClause) → is_refuting o ≡ true → (comes_by split lines o r).ended ≡ None → ⊥
    by None none = absurd (true≢false (sym none))
    by (Some c) empty =
        let parts = and_parts (has_none c.literals) (has_none c.names) empty in
        by-test (λ (s : PoolRecord). s.ended ≡ None → ⊥) (has_none c.literals) (empty_comes c (with_lines r (map (pool_line r) lines))) _
        (λ no_literals.
        by-test (λ (s : PoolRecord). s.ended ≡ None → ⊥) (has_none c.names) _ _ (λ no_names ended. none-some Refuted (sym ended))
        (λ names. absurd (true≢false (sym parts.1 ∙ names))))
        (λ literals. absurd (true≢false (sym parts.0 ∙ literals)))

module _ (options : Options) (inputs : ℕ) where
  -- while the pool is open, fewer inferences than the limit were counted, and each brought at most 2,001 clauses and 2,000 tags
  record IsBounded (total counted : ℕ) (ended : Option Outcome) : Type 0 where
    pub few : total ≤ inputs + 4001 * options.inferences
    pub open_few : ended ≡ None → (counted < options.inferences) × (total ≤ inputs + 4001 * counted)

  abbrev Bounded : PoolRecord → Type 0
  Bounded r = IsBounded (size r) (length r.counted) r.ended

  counts-bounded :
      (keys : List Key) (results : List (List Line)) (r : PoolRecord)
      → length results ≤ length keys → AllByRecursion LeadsToSmall results → r.ended ≡ None → Bounded r → Bounded (counts options keys results r)
  counts-bounded keys results r fewer small is_open bounded =
      let s : PoolRecord = record r { counted = r.counted ++ keys } in
      by-test Bounded (nat_le options.inferences (length s.counted)) (spends options.split (find refutes results) s) (fold (result_comes options.split) s results)
      (λ reached. spent (find refutes results) refl)
      (λ not_reached. registered (leb-false options.inferences (length s.counted) not_reached))
    where
      before : (length r.counted < options.inferences) × (size r ≤ inputs + 4001 * length r.counted)
      before = bounded.open_few is_open

      spent : (o : Option (List Line)) → find refutes results ≡ o → Bounded (spends options.split o (record r { counted = r.counted ++ keys }))
      spent None found = record { few = bounded.few; open_few = λ h. absurd (none-some (Spent (length (r.counted ++ keys))) (sym h)) }
      spent (Some lines) found =
          let s : PoolRecord = record r { counted = r.counted ++ keys } in
          let one = one-result options.split lines s (found-holds LeadsToSmall refutes results lines small found) in
          let low = before.0 in
          let few = before.1 in
          record {
            few = omega (arith, one, low, few);
            open_few = λ h. absurd (refuting-ends options.split lines s (find-passes refutes results lines found) h);
          }

      registered : length (r.counted ++ keys) < options.inferences → Bounded (fold (result_comes options.split) (record r { counted = r.counted ++ keys }) results)
      registered below =
          let s : PoolRecord = record r { counted = r.counted ++ keys } in
          let t : PoolRecord = fold (result_comes options.split) s results in
          let many = all-results options.split results s small in
          let few = before.1 in
          let count : length (r.counted ++ keys) ≡ length r.counted + length keys = length-append r.counted keys in
          let same : length t.counted ≡ length (r.counted ++ keys) = ap (λ (u : PoolRecord). length u.counted) (results-register options.split results s).same in
          let most : size t ≤ inputs + 4001 * length (r.counted ++ keys) = omega (arith, many, few, count, fewer) in
          record { few = omega (arith, most, below); open_few = λ h. (omega (arith, same, below), omega (arith, same, most)) }

  -- the lines of a fate, if it has any
  abbrev FateSmall : Fate → Type 0
  FateSmall fate = (lines : List Line) → lines_of_fate fate ≡ Some lines → LeadsToSmall lines

  removed-bounded : (m : Removal) (r : PoolRecord) → FateSmall m.fate → r.ended ≡ None → Bounded r → Bounded (removed options m r)
  removed-bounded m r small is_open bounded = by m.fate small
    where
      by : (fate : Fate) → FateSmall fate → Bounded (replaced options m.victim fate (dies m.victim m.justifiers r))
      by (Kept lines results) small =
          counts-bounded (Replaced m.victim ∷ []) (lines ∷ []) (dies m.victim m.justifiers r) (omega arith) (small lines refl, tt) is_open bounded
      by (Dropped redundancy) small = bounded
      by Heavy small = bounded

  all-proposed-bounded :
      (ms : List Removal) (r : PoolRecord) → AllByRecursion (λ (m : Removal). FateSmall m.fate) ms → Bounded r → Bounded (fold (proposed options) r ms)
  all-proposed-bounded [] r small bounded = bounded
  all-proposed-bounded (m ∷ ms) r small bounded =
      all-proposed-bounded ms (proposed options r m) small.1
      (by-test Bounded (takes_effect r m) (removed options m r) r
      (λ effect. removed-bounded m r small.0 (open-is r.ended (and_parts (is_none r.ended) (lives r m.victim && list_all (lives r) m.justifiers) effect).0) bounded)
      (λ none. bounded))

  module _ (usage : SymbolUse) (forms : List TreeClause) (j : GivenJob) (r : PoolRecord) (sound : Sound usage forms r) where
    entries-small :
        (results : List (List Line)) → AllByRecursion (Comes usage forms r.registered) results → AllByRecursion LeadsToSmall results
    entries-small [] all = tt
    entries-small (lines ∷ results) all = (all.0.small, entries-small results all.1)

    removals-small :
        (ms : List Removal) → AllByRecursion (λ (m : Removal). FateComes usage forms options r.registered m.fate) ms
        → AllByRecursion (λ (m : Removal). FateSmall m.fate) ms
    removals-small [] all = tt
    removals-small (m ∷ ms) all = (λ lines is. (all.0 lines is).small, removals-small ms all.1)

    abbrev without : ℕ → PoolRecord
    without job = record r { given = without_job job r.given }

    right-removals : (ms : List Removal) → AllByRecursion (IsRightRemoval usage.is_predicate options (clauses_of r) j) ms → AllByRecursion (λ (m : Removal). FateSmall m.fate) ms
    right-removals ms right = removals-small ms (all-removals-come usage forms options j r sound ms right)

    worked-bounded :
        (job : ℕ) (work : Work) → IsRightWork usage.is_predicate options (clauses_of r) j work → r.ended ≡ None → Bounded r
        → Bounded (worked options j.number work (without job))
    worked-bounded job (Gone m) right is_open bounded = removed-bounded m (without job) (right-removals (m ∷ []) (right.right, tt)).0 is_open bounded
    worked-bounded job (Met entries removals) right is_open bounded =
        let s : PoolRecord = sets_aside entries (becomes_active j.number (without job)) in
        all-proposed-bounded removals (counts options (keys_of entries) (lines_of_entries entries) s)
        (right-removals removals (recursion_from_All (IsRightRemoval usage.is_predicate options (clauses_of r) j) removals right.right_removals))
        (counts-bounded (keys_of entries) (lines_of_entries entries) s (few-results entries)
        (entries-small (lines_of_entries entries)
        (all-entries-come usage forms options j r sound entries
        (recursion_from_All (λ (e : Entry). IsRightFate usage.is_predicate options (clauses_of r) j e.key e.fate) entries right.right_entries)))
        is_open bounded)

    returned-bounded :
        (batch : Batch) (o : Option GivenJob) → o ≡ Some j → IsRightWork usage.is_predicate options (clauses_of r) j batch.work → Bounded r
        → Bounded (returns_to options batch o r)
    returned-bounded batch o out right bounded =
        subst (λ p. Bounded (returns_to options batch p r)) (sym out)
        (by-test Bounded (is_none r.ended) (worked options j.number batch.work (without batch.job)) (becomes_active j.number (without batch.job))
        (λ is_open. worked-bounded batch.job batch.work right (open-is r.ended is_open) bounded) (λ ended. bounded))

  claimed-bounded : (job : ℕ) (o : Option ℕ) (r : PoolRecord) → Bounded r → Bounded (claimed_by options job o r)
  claimed-bounded job None r bounded = bounded
  claimed-bounded job (Some n) r bounded =
      by-if (λ s. Bounded (given_out options job n s)) (has_number n r.positions) r (record r { positions = r.positions ++ n ∷ [] }) bounded bounded

  modelled-bounded : (o : Option SolverJob) (truths : List Bool) (r : PoolRecord) → Bounded r → Bounded (modelled_by o truths r)
  modelled-bounded None truths r bounded = bounded
  modelled-bounded (Some s) truths r bounded = bounded

  refuted-bounded : (o : Option SolverJob) (chains : List log.Chain) (r : PoolRecord) → Bounded r → Bounded (refuted_by o chains r)
  refuted-bounded None chains r bounded = bounded
  refuted-bounded (Some s) chains r bounded =
      by-if Bounded (is_none r.ended) _ _ (record { few = bounded.few; open_few = λ h. absurd (none-some Refuted (sym h)) }) bounded

  module _ (usage : SymbolUse) (forms : List TreeClause) where
    after-bounded : (r : PoolRecord) (e : Event) → IsAllowed usage.is_predicate options r e → Sound usage forms r → Bounded r → Bounded (after options r e)
    after-bounded r (Claim job) allowed sound bounded = claimed-bounded job (next_given r) r bounded
    after-bounded r (Return batch) allowed sound bounded =
        returned-bounded usage forms allowed.given r sound batch (given_job r batch.job) allowed.out (allowed.says).2 bounded
    after-bounded r (Stale job justifier) allowed sound bounded = bounded
    after-bounded r (Void job) allowed sound bounded = bounded
    after-bounded r (ClaimSolve job) allowed sound bounded = bounded
    after-bounded r (ReturnModel job truths) allowed sound bounded = modelled-bounded r.solver truths r bounded
    after-bounded r (ReturnRefuted job chains) allowed sound bounded = refuted-bounded r.solver chains r bounded
    after-bounded r (Abandon job) allowed sound bounded = bounded

    history-bounded :
        (es : List Event) (r : PoolRecord) → IsLawfulFrom usage.is_predicate options r es → Sound usage forms r → Bounded r
        → Bounded (fold (after options) r es)
    history-bounded [] r lawful sound bounded = bounded
    history-bounded (e ∷ es) r lawful sound bounded =
        history-bounded es (after options r e) lawful.1 (after-sound usage forms options r e lawful.0 sound) (after-bounded r e lawful.0 sound bounded)

-- positions are of different registered clauses
few-positions : (count : ℕ) (ps : List ℕ) → list_all (λ n. nat_lt n count) ps ≡ true → AllPairs (λ n m. n ≢ m) ps → length ps ≤ count
few-positions count ps registered differ =
    length-le_from_distinct_below ps count (IsDistinct-from_AllPairs Decides-eqb ps differ) (λ n there. ltb-true n count (passing ps n there registered))
  where
    passing : (ps : List ℕ) (n : ℕ) → list_any (λ m. n == m) ps ≡ true → list_all (λ m. nat_lt m count) ps ≡ true → nat_lt n count ≡ true
    passing [] n there all = absurd (true≢false (sym there))
    passing (p ∷ ps) n there all =
        let parts = and_parts (nat_lt p count) (list_all (λ m. nat_lt m count) ps) all in
        ⊎_elim (λ (here : (n == p) ≡ true). ap (λ m. nat_lt m count) (eqb-true n p here) ∙ parts.0)
        (λ (later : list_any (λ m. n == m) ps ≡ true). passing ps n later parts.1) (or_cases (n == p) (list_any (λ m. n == m) ps) there)

module _
    (usage : SymbolUse) (origin : Origin) (history : List Event) (inputs : AreInputs origin.inputs) (limit : IsLimit origin.options)
    (used : IsUseOf origin.inputs usage) (lawful : IsLawful usage.is_predicate origin history) where
  few-in-all : size (replay origin history) < 2 ^ 32
  few-in-all =
      let options : Options = origin.options in
      let begun = inputs-register options.split 0 origin.inputs nothing_registered in
      let most_inputs : ℕ = sum_by clause_size origin.inputs + length origin.inputs in
      let many : size (start origin) ≤ 0 + most_inputs = all-inputs options.split 0 origin.inputs nothing_registered in
      let none : length (start origin).counted ≡ 0 = ap (λ (s : PoolRecord). length s.counted) begun.same in
      let least : 1 ≤ options.inferences = limit.0 in
      let most : options.inferences ≤ MOST_INFERENCES = limit.1 in
      let bounded =
      history-bounded options most_inputs usage origin.inputs history (start origin) lawful (replay-sound usage origin [] inputs used tt)
      (record { few = omega (arith, many); open_few = λ h. (omega (arith, none, least), omega (arith, many)) }) in
      let few : size (replay origin history) ≤ most_inputs + 4001 * options.inferences = bounded.few in
      let short : most_inputs ≤ MOST_FORM_SYMBOLS = inputs.few in
      omega (arith, few, short, most)

pub numbers_fit : NumbersFit
numbers_fit usage origin history inputs limit used lawful =
    let r : PoolRecord = replay origin history in
    let few = few-in-all usage origin history inputs limit used lawful in
    let placed = positions_are_registered origin history in
    (omega (arith, few), few-positions (length r.registered) r.positions placed.0 placed.1)

pub tags_fit : TagsFit
tags_fit usage origin history inputs limit used lawful = let few = few-in-all usage origin history inputs limit used lawful in omega (arith, few)
