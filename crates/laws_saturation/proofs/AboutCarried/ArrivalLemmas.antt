-- Results that come: each is registered, lives already, falls into parts, gives a propositional clause or refutes, and is due no more. A counting
-- that reaches the limit ends the pool.
use Rattle.std.proofs.Common.{◌≡◌, ℕ, ◌+◌, ◌-◌, ◌≤◌, Bool, true, false, List, [], ◌∷◌, ◌++◌, map, length, refl, ap, sym, ◌∙◌, subst, inl, arith, if◌then◌else◌}
use Rattle.std.specs.Prelude.{Option, None, Some, cond, is_none, nat_le, fold, find, filter_map}
use Rattle.std.specs.List.{list_all, AllByRecursion, cons_option}
use Rattle.std.proofs.lemmas.Bool.{true≢false, and_parts, le-leb}
use Rattle.std.proofs.lemmas.Option.{none-some, same_Some}
use Rattle.fol_base.specs.Clause.{TreeClause}
use Rattle.fol_base.specs.Symbols.{FunctionSymbols}
use Rattle.fol_base.specs.Selection.{SelectionMode}
use Rattle.kernel_steps.specs.declared.key.Key.{Key}
use Rattle.kernel_steps.specs.declared.step.Line.{Line}
use Rattle.pool_history.specs.Components.{is_to_split}
use Rattle.pool_history.specs.Tags.{line_names}
use Rattle.pool_history.specs.Record.{PoolRecord, has_living}
use Rattle.pool_history.specs.Lines.{with_lines, pool_line, result_of, last_number}
use Rattle.pool_history.specs.Registering.{registered_last, has_none, with_refutation, with_propositional, split_up, empty_comes, comes}
use Rattle.pool_history.specs.Counting.{comes_by, result_comes, is_refuting, refutes, spends, counts}
use Rattle.pool_history.specs.declared.options.Options.{Options}
use Rattle.pool_history.specs.declared.outcome.Outcome.{Outcome}
use Rattle.pool_history.specs.declared.outcome.Outcome.TheVariants.{Refuted, Spent}
use Rattle.pool_history.proofs.AboutCounting.DeathLemmas.{registers-keeps}
use Rattle.pool_history.proofs.AboutRecords.FrameLemmas.{by-if, result-registers}
use Rattle.pool_history.proofs.AboutLines.AssertionLemmas.{is_assertion_below, below-more}
use Rattle.pool_history.proofs.AboutLines.JoinedLemmas.{by-test}
use Rattle.pool_history.proofs.AboutLines.SoundLemmas.{open-is}
use Rattle.laws_saturation.proofs.AboutCarried.VictimLemmas.{Victims, victims-keep}
use Rattle.laws_calculus.specs.Coverage.{CoversEach}
use Rattle.laws_calculus.proofs.AboutCovering.EachLemmas.{each-held}
use Rattle.laws_saturation.proofs.AboutCarried.AwakeLemmas.{NameChoice, awake}
use Rattle.laws_saturation.proofs.AboutCarried.CarriedLemmas.{HeldBy, Open, lived, registered-carried, due-carried}
use Rattle.laws_saturation.proofs.AboutCarried.DivideLemmas.{split-open}
use Rattle.laws_saturation.proofs.AboutCarried.FitLemmas.{Fits, comes-has-parts, comes-fits, last-true, not-awake}

-- the clauses to which results lead
abbrev pub results_due : List (List Line) → List TreeClause
results_due results = filter_map result_of results

-- the result of lines asserts parts below the count alone
abbrev pub LeadsBelow : ℕ → List Line → Type 0
LeadsBelow count lines = (c : TreeClause) → result_of lines ≡ Some c → list_all (is_assertion_below count) c.names ≡ true

-- ---- what ended

pub not-open : (ended : Option Outcome) (o : Outcome) → ended ≡ Some o → ended ≡ None → ⊥
not-open ended o is is_open = none-some o (sym is_open ∙ is)

pub is-closed : (ended : Option Outcome) → is_none ended ≡ false → ended ≡ None → ⊥
is-closed ended closed is_open = true≢false (sym (ap is_none is_open) ∙ closed)

-- ---- a limit that is reached

found-passes : {X : Type 0} (p : X → Bool) (xs : List X) (x : X) → find p xs ≡ Some x → p x ≡ true
found-passes p [] x found = absurd (none-some x found)
found-passes p (y ∷ ys) x found = by (p y) refl found (found-passes p ys x)
  where
    by : (b : Bool) → p y ≡ b → cond b (Some y) (find p ys) ≡ Some x → (find p ys ≡ Some x → p x ≡ true) → p x ≡ true
    by true is h rest = ap p (sym (same_Some y x h)) ∙ is
    by false is h rest = rest h

refuted-ends : (r : PoolRecord) → (with_refutation r).ended ≡ None → ⊥
refuted-ends r h = not-open (with_refutation r).ended Refuted refl h

refuting-ends : (split : Bool) (lines : List Line) (r : PoolRecord) → refutes lines ≡ true → (result_comes split r lines).ended ≡ None → ⊥
refuting-ends split lines r refuting =
    by-test (λ (s : PoolRecord). s.ended ≡ None → ⊥) (is_none r.ended) (comes_by split lines (result_of lines) r) r
    (λ is_open. by (result_of lines) refuting) (λ closed. is-closed r.ended closed)
  where
    by : (o : Option TreeClause) → is_refuting o ≡ true → (comes_by split lines o r).ended ≡ None → ⊥
    by None h = absurd (true≢false (sym h))
    by (Some c) h =
        let empty = and_parts (has_none c.literals) (has_none c.names) h in
        let more : PoolRecord = with_lines r (map (pool_line r) lines) in
        by-test (λ (s : PoolRecord). s.ended ≡ None → ⊥) (has_none c.literals) (empty_comes c more) _
        (λ none.
        by-test (λ (s : PoolRecord). s.ended ≡ None → ⊥) (has_none c.names) (with_refutation (registered_last c more))
        (with_propositional (line_names more.parts c.names) more)
        (λ nameless. refuted-ends (registered_last c more)) (λ named. absurd (true≢false (sym empty.1 ∙ named))))
        (λ some. absurd (true≢false (sym empty.0 ∙ some)))

pub spends-ends : (split : Bool) (results : List (List Line)) (r : PoolRecord) → (spends split (find refutes results) r).ended ≡ None → ⊥
spends-ends split results r = by (find refutes results) refl
  where
    by : (o : Option (List Line)) → find refutes results ≡ o → (spends split o r).ended ≡ None → ⊥
    by None found h = not-open (Some (Spent (length r.counted))) (Spent (length r.counted)) refl h
    by (Some lines) found h = refuting-ends split lines r (found-passes refutes results lines found) h

-- ---- results

module _ {is_predicate : ℕ → Bool} (choice : NameChoice) (functions : FunctionSymbols is_predicate) (mode : SelectionMode) (inputs : List TreeClause) where
  -- while the pool is open and the choice fits
  abbrev pub Opens : List TreeClause → PoolRecord → Type 0
  Opens due r = Fits choice r → Open choice functions mode inputs r due

  abbrev pub OpenWith : List TreeClause → PoolRecord → Type 0
  OpenWith due r = r.ended ≡ None → Opens due r

  -- more assertions are below the number of parts
  met-now :
      (count : ℕ) (c : TreeClause) (r : PoolRecord) → count ≤ length r.parts → list_all (is_assertion_below count) c.names ≡ true
      → list_all (is_assertion_below (length r.parts)) c.names ≡ true
  met-now count c r few below =
      let same : count + (length r.parts - count) ≡ length r.parts = omega (arith, few) in
      subst (λ k. list_all (is_assertion_below k) c.names ≡ true) same (below-more count (length r.parts - count) c.names below)

  pub comes-open :
      (split : Bool) (lines : List Line) (c : TreeClause) (due : List TreeClause) (r : PoolRecord)
      → list_all (is_assertion_below (length r.parts)) c.names ≡ true → Victims r → Opens (c ∷ due) r
      → OpenWith due (comes split lines c r)
  comes-open split lines c due r below victims before =
      fits_first
      (by-test Arrived (has_none c.literals) (empty_comes c more)
      (if is_to_split split c.literals then split_up c more else (if has_living r c then r else registered_last c more)) empty
      (λ some.
      by-test Arrived (is_to_split split c.literals) (split_up c more) (if has_living r c then r else registered_last c more)
      (λ splits h first now. split-open choice functions mode inputs c due more below victims (before first) now)
      (λ whole.
      by-test Arrived (has_living r c) r (registered_last c more)
      (λ has h first now. going first (λ is. each-held functions Holds c (inl (lived r c has), is)))
      (λ new h first now.
      registered-carried choice functions mode inputs r.registered r.deaths r.counted r.set_aside (record { clause = c; line = last_number more }) due
      victims some (before first)))))
    where
      more : PoolRecord
      more = with_lines r lines

      Holds : TreeClause → Type 0
      Holds = HeldBy choice r.registered r.deaths due

      -- a choice that fits what is left fitted before
      Arrived : PoolRecord → Type 0
      Arrived s = s.ended ≡ None → Fits choice r → Fits choice s → Open choice functions mode inputs s due

      going : Fits choice r → (awake choice c ≡ true → CoversEach functions Holds c) → Open choice functions mode inputs r due
      going first covers = due-carried choice functions mode inputs r.registered r.deaths r.counted r.set_aside c due covers (before first)

      empty : has_none c.literals ≡ true → Arrived (empty_comes c more)
      empty none =
          by-test Arrived (has_none c.names) (with_refutation (registered_last c more)) (with_propositional (line_names more.parts c.names) more)
          (λ nameless h. absurd (refuted-ends (registered_last c more) h))
          (λ named h first now.
          going first
          (λ is.
          absurd
          (not-awake choice r.parts now.agrees c below
          (last-true choice r.propositional (record { names = line_names r.parts c.names; line = last_number more }) now.model) is)))

      fits_first : Arrived (comes split lines c r) → OpenWith due (comes split lines c r)
      fits_first arrived = λ h now. arrived h (comes-fits choice split lines c r now) now

  result-open :
      (split : Bool) (count : ℕ) (lines : List Line) (rest : List (List Line)) (r : PoolRecord)
      → LeadsBelow count lines → count ≤ length r.parts → Victims r → OpenWith (results_due (lines ∷ rest)) r
      → OpenWith (results_due rest) (result_comes split r lines)
  result-open split count lines rest r below few victims before =
      by-test (OpenWith (results_due rest)) (is_none r.ended) (comes_by split lines (result_of lines) r) r
      (λ is_open. by (result_of lines) refl (before (open-is r.ended is_open)))
      (λ closed h. absurd (is-closed r.ended closed h))
    where
      by :
          (o : Option TreeClause) → result_of lines ≡ o → Opens (results_due (lines ∷ rest)) r
          → OpenWith (results_due rest) (comes_by split lines o r)
      by None led opens = λ h now. subst (λ o. Open choice functions mode inputs r (cons_option o (results_due rest))) led (opens now)
      by (Some c) led opens =
          comes-open split (map (pool_line r) lines) c (results_due rest) r (met-now count c r few (below c led)) victims
          (λ fits. subst (λ o. Open choice functions mode inputs r (cons_option o (results_due rest))) led (opens fits))

  -- no part goes
  result-few : (split : Bool) (count : ℕ) (lines : List Line) (r : PoolRecord) → count ≤ length r.parts → count ≤ length (result_comes split r lines).parts
  result-few split count lines r few =
      by-if (λ (s : PoolRecord). count ≤ length s.parts) (is_none r.ended) (comes_by split lines (result_of lines) r) r (by (result_of lines)) few
    where
      by : (o : Option TreeClause) → count ≤ length (comes_by split lines o r).parts
      by None = few
      by (Some c) = comes-has-parts count split (map (pool_line r) lines) c r few

  pub results-open :
      (split : Bool) (count : ℕ) (results : List (List Line)) (r : PoolRecord)
      → AllByRecursion (LeadsBelow count) results → count ≤ length r.parts → Victims r → OpenWith (results_due results) r
      → OpenWith [] (fold (result_comes split) r results)
  results-open split count [] r below few victims before = before
  results-open split count (lines ∷ rest) r below few victims before =
      let s : PoolRecord = result_comes split r lines in
      results-open split count rest s below.1 (result-few split count lines r few)
      (victims-keep r s (registers-keeps r s (result-registers split r lines)) victims)
      (result-open split count lines rest r below.0 few victims before)

  -- ---- countings

  abbrev pub with_keys : List Key → PoolRecord → PoolRecord
  with_keys keys r = record r { counted = r.counted ++ keys }

  pub counts-open :
      (options : Options) (count : ℕ) (keys : List Key) (results : List (List Line)) (r : PoolRecord)
      → AllByRecursion (LeadsBelow count) results → count ≤ length r.parts → Victims r → OpenWith (results_due results) (with_keys keys r)
      → OpenWith [] (counts options keys results r)
  counts-open options count keys results r below few victims before =
      let s : PoolRecord = with_keys keys r in
      by-test (OpenWith []) (nat_le options.inferences (length s.counted)) (spends options.split (find refutes results) s)
      (fold (result_comes options.split) s results)
      (λ reached h. absurd (spends-ends options.split results s h))
      (λ small. results-open options.split count results s below few victims before)

-- a counting that reaches the limit
pub counts-ends :
    (options : Options) (keys : List Key) (results : List (List Line)) (r : PoolRecord)
    → options.inferences ≤ length (r.counted ++ keys) → (counts options keys results r).ended ≡ None → ⊥
counts-ends options keys results r reached =
    let s : PoolRecord = record r { counted = r.counted ++ keys } in
    by-test (λ (t : PoolRecord). t.ended ≡ None → ⊥) (nat_le options.inferences (length s.counted)) (spends options.split (find refutes results) s)
    (fold (result_comes options.split) s results)
    (λ is. spends-ends options.split results s)
    (λ few. absurd (true≢false (sym (le-leb options.inferences (length s.counted) reached) ∙ few)))
