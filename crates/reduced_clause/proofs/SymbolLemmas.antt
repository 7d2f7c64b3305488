-- The symbols of the clause to which lines lead: those of the clause that was handed in, of the clauses used and of what is bound.
use Rattle.std.proofs.Common.{◌≡◌, ℕ, zero, suc, ◌+◌, ◌-◌, ◌==◌, Bool, true, false, ◌&&◌, not, List, [], ◌∷◌, take, Option, Some, None, refl, ap, sym, ◌∙◌, ⊎_elim}
use Rattle.std.specs.Prelude.{slice_get, nat_lt, filter, flat_map, Contains, if◌then◌else◌}
use Rattle.std.specs.List.{list_all}
use Rattle.std.proofs.lemmas.Bool.{cond-true, cond-false, cases_Bool, and_from, eqb-true, or_cases, or_left, or_right, true≢false}
use Rattle.std.proofs.lemmas.Option.{none-some, same_Some}
use Rattle.fol_base.specs.Clause.{TreeClause}
use Rattle.fol_base.specs.Literal.{clause_of}
use Rattle.fol_base.specs.Canonical.{distinct}
use Rattle.fol_base.proofs.WorkedExamples.TestLemmas.{else_some, if_some, list_all-item, option_map-some}
use Rattle.kernel_steps.specs.Parents.{Parent, Parents}
use Rattle.kernel_steps.specs.Derivation.{AreSteps, continued, line_parents, reduced_parents}
use Rattle.kernel_steps.specs.Lines.{is_on_literals, step_parents, clause_parents, clauses_named}
use Rattle.kernel_steps.specs.Split.{has_number}
use Rattle.kernel_steps.specs.Symbols.{clause_symbols_pass, bound_symbols_pass}
use Rattle.kernel_steps.specs.declared.step.TheConstants.{CLAUSE_NUMBERS}
use Rattle.kernel_steps.specs.declared.step.Line.{Line}
use Rattle.kernel_steps.proofs.AboutCalls.ItemLemmas.{Contains-item}
use Rattle.kernel_steps.proofs.AboutCalls.SymbolLemmas.{steps_keep_symbols}
use Rattle.kernel_steps.proofs.AboutSplits.SplitTables.{has-left, has-right}
use Rattle.reduced_clause.specs.Reduced.{IsOneOf, last_clause}
use Rattle.reduced_clause.proofs.VerdictLemmas.{conclusion-onward}

-- ---- numbers in lists

pub has-filter : (n : ℕ) (p : ℕ → Bool) (ns : List ℕ) → p n ≡ true → has_number n ns ≡ true → has_number n (filter p ns) ≡ true
has-filter n p [] passes h = h
has-filter n p (k ∷ ns) passes h =
    ⊎_elim
    (λ kept.
    ap (λ ks. has_number n ks) (cond-true (p k) (k ∷ filter p ns) (filter p ns) kept)
    ∙ ⊎_elim (λ here. or_left (n == k) (has_number n (filter p ns)) here)
    (λ later. or_right (n == k) (has_number n (filter p ns)) (has-filter n p ns passes later)) (or_cases (n == k) (has_number n ns) h))
    (λ gone.
    ap (λ ks. has_number n ks) (cond-false (p k) (k ∷ filter p ns) (filter p ns) gone)
    ∙ ⊎_elim (λ here. absurd (true≢false (sym passes ∙ ap p (eqb-true n k here) ∙ gone)))
    (λ later. has-filter n p ns passes later) (or_cases (n == k) (has_number n ns) h))
    (cases_Bool (p k))

pub has-distinct : (n : ℕ) (ns : List ℕ) → has_number n ns ≡ true → has_number n (distinct ns) ≡ true
has-distinct n [] h = h
has-distinct n (k ∷ ns) h =
    ⊎_elim
    (λ here. or_left (n == k) (has_number n (filter (λ w. not (w == k)) (distinct ns))) here)
    (λ other.
    or_right (n == k) (has_number n (filter (λ w. not (w == k)) (distinct ns)))
    (has-filter n (λ w. not (w == k)) (distinct ns) (ap not other)
    (has-distinct n ns (⊎_elim (λ here. absurd (true≢false (sym here ∙ other))) (λ later. later) (or_cases (n == k) (has_number n ns) h)))))
    (cases_Bool (n == k))

pub Contains-has : (n : ℕ) (ns : List ℕ) → has_number n ns ≡ true → Contains ns n
Contains-has n ns h = let at = position_of n ns h in Contains-item ns at.0 n at.1
  where
    position_of : (n : ℕ) (ns : List ℕ) → has_number n ns ≡ true → (k : ℕ) × (slice_get ns k ≡ Some n)
    position_of n [] h = absurd (true≢false (sym h))
    position_of n (k ∷ ns) h =
        ⊎_elim (λ here. (0, ap (λ m. let o : Option ℕ = Some m in o) (sym (eqb-true n k here)))) (λ later. let at = position_of n ns later in (suc at.0, at.1))
        (or_cases (n == k) (has_number n ns) h)

-- a parent below the numbers of lines is named
pub named-there :
    (lines : List Line) (i : ℕ) (line : Line) (n : ℕ)
    → slice_get lines i ≡ Some line → has_number n (step_parents line.step) ≡ true → nat_lt n CLAUSE_NUMBERS ≡ true
    → has_number n (clauses_named lines) ≡ true
named-there lines i line n there parent below =
    has-filter n (λ m. nat_lt m CLAUSE_NUMBERS) (flat_map (λ (l : Line). step_parents l.step) lines) below (among lines i there)
  where
    among : (ls : List Line) (k : ℕ) → slice_get ls k ≡ Some line → has_number n (flat_map (λ (l : Line). step_parents l.step) ls) ≡ true
    among [] k at = absurd (none-some line at)
    among (l ∷ ls) zero at =
        has-left n (step_parents l.step) (flat_map (λ (m : Line). step_parents m.step) ls)
        (ap (λ (m : Line). has_number n (step_parents m.step)) (same_Some l line at) ∙ parent)
    among (l ∷ ls) (suc k) at = has-right n (step_parents l.step) (flat_map (λ (m : Line). step_parents m.step) ls) (among ls k at)

-- ---- the last clause

module _
    (clauses : ℕ → Option TreeClause) (c : TreeClause) (used : List ℕ) (lines : List Line)
    (kinds : list_all (λ (l : Line). is_on_literals l.step) lines ≡ true)
    (steps : AreSteps (CLAUSE_NUMBERS + 1) (reduced_parents (clause_parents clauses) c) lines)
    (noted : used ≡ distinct (clauses_named lines))
    (test : ℕ → ℕ → Bool) (passes : clause_symbols_pass test c ≡ true)
    (all : (d : TreeClause) → IsOneOf clauses used d → clause_symbols_pass test d ≡ true)
    (bound : bound_symbols_pass test lines ≡ true) where
  abbrev outer : Parents
  outer = reduced_parents (clause_parents clauses) c

  -- the parents that are used
  abbrev inner : Parents
  inner n = if nat_lt n CLAUSE_NUMBERS && not (has_number n used) then None else outer n

  inner-passes : (n : ℕ) (p : Parent) → inner n ≡ Some p → clause_symbols_pass test p.clause ≡ true
  inner-passes n p h =
      let parts = else_some (nat_lt n CLAUSE_NUMBERS && not (has_number n used)) (outer n) p h in
      ⊎_elim
      (λ below.
      let listed : has_number n used ≡ true =
      ⊎_elim (λ yes. yes)
      (λ no. absurd (true≢false (sym (and_from (nat_lt n CLAUSE_NUMBERS) (not (has_number n used)) below (ap not no)) ∙ parts.0)))
      (cases_Bool (has_number n used)) in
      option_map-some (λ d. let q : Parent = record { clause = d; introduces = false } in q) (clauses n) p
      (sym (cond-true (nat_lt n CLAUSE_NUMBERS) (clause_parents clauses n)
      (if n == CLAUSE_NUMBERS then Some (record { clause = c; introduces = false }) else None) below) ∙ parts.1)
      λ d there is.
      ap (λ (q : Parent). clause_symbols_pass test q.clause) (sym is)
      ∙ all d (record { number = n; listed = Contains-has n used listed; there = there }))
      (λ above.
      let at =
      if_some (n == CLAUSE_NUMBERS) (Some (record { clause = c; introduces = false })) p
      (sym (cond-false (nat_lt n CLAUSE_NUMBERS) (clause_parents clauses n)
      (if n == CLAUSE_NUMBERS then Some (record { clause = c; introduces = false }) else None) above) ∙ parts.1) in
      ap (λ (q : Parent). clause_symbols_pass test q.clause) (sym (same_Some (record { clause = c; introduces = false }) p at.1)) ∙ passes)
      (cases_Bool (nat_lt n CLAUSE_NUMBERS))

  -- a parent of a line is used
  inner-there :
      (i : ℕ) (line : Line) → slice_get lines i ≡ Some line → (n : ℕ) → has_number n (step_parents line.step) ≡ true → outer n ≡ inner n
  inner-there i line there n parent =
      sym (cond-false (nat_lt n CLAUSE_NUMBERS && not (has_number n used)) None (outer n)
      (⊎_elim
      (λ below.
      ap (λ b. nat_lt n CLAUSE_NUMBERS && not b)
      (ap (λ ns. has_number n ns) noted ∙ has-distinct n (clauses_named lines) (named-there lines i line n there parent below))
      ∙ and-false (nat_lt n CLAUSE_NUMBERS))
      (λ above. ap (λ b. b && not (has_number n used)) above)
      (cases_Bool (nat_lt n CLAUSE_NUMBERS))))
    where
      and-false : (b : Bool) → (b && false) ≡ false
      and-false true = refl
      and-false false = refl

  inner-steps : AreSteps (CLAUSE_NUMBERS + 1) inner lines
  inner-steps i line there =
      conclusion-onward line.step (continued (CLAUSE_NUMBERS + 1) outer (take i lines)) (continued (CLAUSE_NUMBERS + 1) inner (take i lines))
      (clause_of line.clause) (list_all-item (λ (l : Line). is_on_literals l.step) lines i line there kinds)
      (λ n p parent at.
      ap (λ (o : Option Parent). if nat_lt n (CLAUSE_NUMBERS + 1) then o else line_parents (take i lines) (n - (CLAUSE_NUMBERS + 1)))
      (sym (inner-there i line there n parent)) ∙ at)
      (steps i line there)

  pub lines-pass : (n : ℕ) (line : Line) → slice_get lines n ≡ Some line → clause_symbols_pass test (clause_of line.clause) ≡ true
  lines-pass = steps_keep_symbols test (CLAUSE_NUMBERS + 1) inner lines inner-passes bound inner-steps

  pub last-passes : clause_symbols_pass test (last_clause c lines) ≡ true
  last-passes = last c passes lines lines-pass
    where
      last :
          (d : TreeClause) → clause_symbols_pass test d ≡ true → (ls : List Line)
          → ((n : ℕ) (line : Line) → slice_get ls n ≡ Some line → clause_symbols_pass test (clause_of line.clause) ≡ true)
          → clause_symbols_pass test (last_clause d ls) ≡ true
      last d h [] each = h
      last d h (l ∷ ls) each = last (clause_of l.clause) (each 0 l refl) ls (λ n line at. each (suc n) line at)
