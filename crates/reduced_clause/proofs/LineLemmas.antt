-- Lines that go on from lines: their parents are there behind these too.
use Rattle.std.proofs.Common.{◌≡◌, ℕ, zero, suc, ◌+◌, ◌-◌, ◌<◌, ◌≤◌, ◌==◌, Bool, true, false, List, [], ◌∷◌, ◌++◌, length, take, Option, Some, None, refl, ap, sym, ◌∙◌, ⊎_elim, inl, inr, arith}
use Rattle.std.specs.Prelude.{◌⊎◌, slice_get, nat_lt, option_and_then, if◌then◌else◌}
use Rattle.std.specs.List.{list_all}
use Rattle.std.proofs.lemmas.Bool.{cond-true, cond-false, cases_Bool, eqb-true, lt-ltb, le-ltb, ltb-true, ltb-false, and_parts, true≢false}
use Rattle.std.proofs.lemmas.List.{take-append-le}
use Rattle.std.proofs.lemmas.Option.{none-some, option_and_then_some}
use Rattle.std.proofs.Math.Seq.{take-append-add}
use Rattle.fol_base.specs.Clause.{TreeClause}
use Rattle.fol_base.specs.Literal.{clause_of}
use Rattle.fol_base.proofs.WorkedExamples.TestLemmas.{if_some, list_all-item}
use Rattle.kernel_steps.specs.Parents.{Parent, Parents}
use Rattle.kernel_steps.specs.Conclusion.{verdict}
use Rattle.kernel_steps.specs.Derivation.{AreSteps, continued, line_parent, line_parents, reduced_parents, is_clause_step, introduces_name}
use Rattle.kernel_steps.specs.Lines.{is_on_literals}
use Rattle.kernel_steps.specs.declared.step.TheConstants.{CLAUSE_NUMBERS}
use Rattle.kernel_steps.specs.declared.step.Step.{Step}
use Rattle.kernel_steps.specs.declared.step.Step.TheVariants.{Para, Refl, Factor, Merge}
use Rattle.kernel_steps.specs.declared.step.Line.{Line}
use Rattle.reduced_clause.specs.Reduced.{last_clause}
use Rattle.reduced_clause.specs.Extending.{last_number, parents_with}
use Rattle.reduced_clause.proofs.VerdictLemmas.{conclusion-onward}

-- ---- items of two lists

pub slice_get-append_left : {X : Type 0} (xs ys : List X) (n : ℕ) (x : X) → slice_get xs n ≡ Some x → slice_get (xs ++ ys) n ≡ Some x
slice_get-append_left [] ys n x h = absurd (none-some x h)
slice_get-append_left (z ∷ xs) ys zero x h = h
slice_get-append_left (z ∷ xs) ys (suc n) x h = slice_get-append_left xs ys n x h

pub slice_get-append_right : {X : Type 0} (xs ys : List X) (n : ℕ) → slice_get (xs ++ ys) (length xs + n) ≡ slice_get ys n
slice_get-append_right [] ys n = let e : 0 + n ≡ n = omega arith in ap (slice_get ys) e
slice_get-append_right (z ∷ xs) ys n =
    let e : length (z ∷ xs) + n ≡ suc (length xs + n) = omega arith in
    ap (slice_get (z ∷ xs ++ ys)) e ∙ slice_get-append_right xs ys n

pub record IsBehind {X : Type 0} (xs ys : List X) (n : ℕ) (x : X) : Type 0 where
  pub further : ℕ
  pub number : n ≡ length xs + further
  pub there : slice_get ys further ≡ Some x

pub slice_get-append_cases :
    {X : Type 0} (xs ys : List X) (n : ℕ) (x : X) → slice_get (xs ++ ys) n ≡ Some x
    → ((n < length xs) × (slice_get xs n ≡ Some x)) ⊎ IsBehind xs ys n x
slice_get-append_cases [] ys n x h =
    let e : n ≡ 0 + n = omega arith in inr (record { further = n; number = e; there = h })
slice_get-append_cases (z ∷ xs) ys zero x h = let less : 0 < length (z ∷ xs) = omega arith in inl (less, h)
slice_get-append_cases (z ∷ xs) ys (suc n) x h =
    ⊎_elim
    (λ here. let less : suc n < length (z ∷ xs) = omega (arith, here.0) in inl (less, here.1))
    (λ behind.
    let e : suc n ≡ length (z ∷ xs) + behind.further = omega (arith, behind.number) in
    inr (record { further = behind.further; number = e; there = behind.there }))
    (slice_get-append_cases xs ys n x h)

-- ---- the last line as a parent

pub is_clause : (step : Step) → is_on_literals step ≡ true → is_clause_step step ≡ true
is_clause (Para first second from from_side into into_side place first_bind second_bind) h = refl
is_clause (Refl parent literal bind) h = refl
is_clause (Factor parent becomes becomes_side other other_side bind) h = refl
is_clause (Merge parent stays goes bind) h = refl
is_clause _ h = absurd (true≢false (sym h))

pub no_name : (step : Step) → is_on_literals step ≡ true → introduces_name step ≡ false
no_name (Para first second from from_side into into_side place first_bind second_bind) h = refl
no_name (Refl parent literal bind) h = refl
no_name (Factor parent becomes becomes_side other other_side bind) h = refl
no_name (Merge parent stays goes bind) h = refl
no_name _ h = absurd (true≢false (sym h))

-- a clause as a parent
abbrev pub plain_parent : TreeClause → Parent
plain_parent c = record { clause = c; introduces = false }

pub line_parent-plain : (l : Line) → is_on_literals l.step ≡ true → line_parent l ≡ Some (plain_parent (clause_of l.clause))
line_parent-plain l kind =
    cond-true (is_clause_step l.step) (Some (record { clause = clause_of l.clause; introduces = introduces_name l.step })) None (is_clause l.step kind)
    ∙ ap (λ (b : Bool). let p : Parent = record { clause = clause_of l.clause; introduces = b } in Some p) (no_name l.step kind)

abbrev OnLiterals : List Line → Type 0
OnLiterals lines = list_all (λ (l : Line). is_on_literals l.step) lines ≡ true

last-line :
    (c : TreeClause) (l : Line) (ls : List Line) → OnLiterals (l ∷ ls)
    → line_parents (l ∷ ls) (length ls) ≡ Some (plain_parent (last_clause c (l ∷ ls)))
last-line c l [] kinds = line_parent-plain l (and_parts (is_on_literals l.step) true kinds).0
last-line c l (m ∷ ls) kinds =
    last-line (clause_of l.clause) m ls
    (and_parts (is_on_literals l.step) (list_all (λ (k : Line). is_on_literals k.step) (m ∷ ls)) kinds).1

module _ (outer : Parents) (c : TreeClause) where
  abbrev from : Parents
  from = reduced_parents outer c

  last-parent :
      (lines : List Line) → OnLiterals lines
      → continued (CLAUSE_NUMBERS + 1) from lines (last_number lines) ≡ Some (plain_parent (last_clause c lines))
  last-parent [] kinds = refl
  last-parent (l ∷ ls) kinds =
      let above : CLAUSE_NUMBERS + 1 ≤ last_number (l ∷ ls) = omega arith in
      let same : last_number (l ∷ ls) - (CLAUSE_NUMBERS + 1) ≡ length ls = omega arith in
      cond-false (nat_lt (last_number (l ∷ ls)) (CLAUSE_NUMBERS + 1)) (from (last_number (l ∷ ls)))
      (line_parents (l ∷ ls) (last_number (l ∷ ls) - (CLAUSE_NUMBERS + 1)))
      (le-ltb (last_number (l ∷ ls)) (CLAUSE_NUMBERS + 1) above)
      ∙ ap (line_parents (l ∷ ls)) same
      ∙ last-line c l ls kinds

  -- what is a parent stays one where lines come behind
  line_parents-onward :
      (lines more : List Line) (n : ℕ) (p : Parent) → line_parents lines n ≡ Some p → line_parents (lines ++ more) n ≡ Some p
  line_parents-onward lines more n p h =
      option_and_then_some line_parent (slice_get lines n) p h λ line line_is step.
      ap (option_and_then line_parent) (slice_get-append_left lines more n line line_is) ∙ step

  continued-onward :
      (lines more : List Line) (n : ℕ) (p : Parent)
      → continued (CLAUSE_NUMBERS + 1) from lines n ≡ Some p → continued (CLAUSE_NUMBERS + 1) from (lines ++ more) n ≡ Some p
  continued-onward lines more n p h =
      ⊎_elim
      (λ below.
      cond-true (nat_lt n (CLAUSE_NUMBERS + 1)) (from n) (line_parents (lines ++ more) (n - (CLAUSE_NUMBERS + 1))) below
      ∙ sym (cond-true (nat_lt n (CLAUSE_NUMBERS + 1)) (from n) (line_parents lines (n - (CLAUSE_NUMBERS + 1))) below)
      ∙ h)
      (λ above.
      cond-false (nat_lt n (CLAUSE_NUMBERS + 1)) (from n) (line_parents (lines ++ more) (n - (CLAUSE_NUMBERS + 1))) above
      ∙ line_parents-onward lines more (n - (CLAUSE_NUMBERS + 1)) p
      (sym (cond-false (nat_lt n (CLAUSE_NUMBERS + 1)) (from n) (line_parents lines (n - (CLAUSE_NUMBERS + 1))) above) ∙ h))
      (cases_Bool (nat_lt n (CLAUSE_NUMBERS + 1)))

  -- a clause by its number, in any lines
  clause-parent :
      (lines : List Line) (n : ℕ) → nat_lt n CLAUSE_NUMBERS ≡ true → continued (CLAUSE_NUMBERS + 1) from lines n ≡ outer n
  clause-parent lines n below =
      let less : n < CLAUSE_NUMBERS + 1 = omega (arith, ltb-true n CLAUSE_NUMBERS below) in
      cond-true (nat_lt n (CLAUSE_NUMBERS + 1)) (from n) (line_parents lines (n - (CLAUSE_NUMBERS + 1))) (lt-ltb n (CLAUSE_NUMBERS + 1) less)
      ∙ cond-true (nat_lt n CLAUSE_NUMBERS) (outer n) (if n == CLAUSE_NUMBERS then Some (plain_parent c) else None) below

  module _ (lines : List Line) (kinds : OnLiterals lines) (d : TreeClause) (is : d ≡ last_clause c lines) where
    abbrev behind : Parents
    behind = parents_with outer (last_number lines) d

    -- a parent of a further line is one of the line behind all
    parents-joined :
        (more : List Line) (n m : ℕ) (p : Parent)
        → continued (last_number lines + 1) behind (take n more) m ≡ Some p
        → continued (CLAUSE_NUMBERS + 1) from (lines ++ take n more) m ≡ Some p
    parents-joined more n m p h =
        ⊎_elim
        (λ below.
        let at : behind m ≡ Some p = sym (cond-true (nat_lt m (last_number lines + 1)) (behind m) (line_parents (take n more) (m - (last_number lines + 1))) below) ∙ h in
        ⊎_elim
        (λ clause.
        clause-parent (lines ++ take n more) m clause
        ∙ sym (cond-true (nat_lt m CLAUSE_NUMBERS) (outer m) (if m == last_number lines then Some (plain_parent d) else None) clause) ∙ at)
        (λ other.
        let parts =
        if_some (m == last_number lines) (Some (plain_parent d)) p
        (sym (cond-false (nat_lt m CLAUSE_NUMBERS) (outer m) (if m == last_number lines then Some (plain_parent d) else None) other) ∙ at) in
        ap (continued (CLAUSE_NUMBERS + 1) from (lines ++ take n more)) (eqb-true m (last_number lines) parts.0)
        ∙ continued-onward lines (take n more) (last_number lines) p
        (last-parent lines kinds ∙ ap (λ (e : TreeClause). let o : Option Parent = Some (plain_parent e) in o) (sym is) ∙ parts.1))
        (cases_Bool (nat_lt m CLAUSE_NUMBERS)))
        (λ above.
        let j : ℕ = m - (last_number lines + 1) in
        let past : last_number lines + 1 ≤ m = ltb-false m (last_number lines + 1) above in
        let at : line_parents (take n more) j ≡ Some p =
        sym (cond-false (nat_lt m (last_number lines + 1)) (behind m) (line_parents (take n more) j) above) ∙ h in
        let number : m - (CLAUSE_NUMBERS + 1) ≡ length lines + j = omega (arith, past) in
        let large : CLAUSE_NUMBERS + 1 ≤ m = omega (arith, past) in
        cond-false (nat_lt m (CLAUSE_NUMBERS + 1)) (from m) (line_parents (lines ++ take n more) (m - (CLAUSE_NUMBERS + 1)))
        (le-ltb m (CLAUSE_NUMBERS + 1) large)
        ∙ ap (line_parents (lines ++ take n more)) number
        ∙ ap (option_and_then line_parent) (slice_get-append_right lines (take n more) j)
        ∙ at)
        (cases_Bool (nat_lt m (last_number lines + 1)))

    pub steps-joined :
        (more : List Line) → OnLiterals more
        → AreSteps (CLAUSE_NUMBERS + 1) from lines → AreSteps (last_number lines + 1) behind more
        → AreSteps (CLAUSE_NUMBERS + 1) from (lines ++ more)
    steps-joined more more_kinds steps more_steps n line there =
        ⊎_elim
        (λ before.
        ap (λ ls. verdict line.step (continued (CLAUSE_NUMBERS + 1) from ls)) (take-append-le n lines more (lt-le n (length lines) before.0))
        ∙ steps n line before.1)
        (λ later.
        ap (λ k. verdict line.step (continued (CLAUSE_NUMBERS + 1) from (take k (lines ++ more)))) later.number
        ∙ ap (λ ls. verdict line.step (continued (CLAUSE_NUMBERS + 1) from ls)) (take-append-add lines more later.further)
        ∙ conclusion-onward line.step (continued (last_number lines + 1) behind (take later.further more))
        (continued (CLAUSE_NUMBERS + 1) from (lines ++ take later.further more)) (clause_of line.clause)
        (list_all-item (λ (l : Line). is_on_literals l.step) more later.further line later.there more_kinds)
        (λ m p listed. parents-joined more later.further m p)
        (more_steps later.further line later.there))
        (slice_get-append_cases lines more n line there)
      where
        lt-le : (a b : ℕ) → a < b → a ≤ b
        lt-le a b h = omega arith
