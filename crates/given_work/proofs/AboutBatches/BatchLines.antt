-- The lines of reduced clauses as lines of a batch: those of an inference's conclusion stand behind the line of the inference; in those of a
-- told clause it has its number, and each line has the number before.
use Rattle.std.proofs.Common.{◌≡◌, ◌⊎◌, ℕ, zero, suc, ◌+◌, ◌-◌, ◌≤◌, ◌==◌, Bool, true, false, List, [], ◌∷◌, take, Option, Some, None, refl, ap, ap₂, sym, ◌∙◌, subst, ⊎_elim, inl, inr, arith}
use Rattle.std.specs.Prelude.{map, flat_map, ◌&&◌, ◌++◌, length, slice_get, nat_lt, option_map, option_and_then, if◌then◌else◌}
use Rattle.std.specs.List.{list_all}
use Rattle.std.proofs.lemmas.Bool.{cond-true, cond-false, cases_Bool, eqb-true, ltb-false, le-ltb, true≢false, false_from_ne_true, and_parts, and_from}
use Rattle.std.proofs.lemmas.List.{take-map}
use Rattle.std.proofs.lemmas.List.Elements.{All-map, All-weaker, All-cons}
use Rattle.std.proofs.lemmas.Option.{same_Some, slice_get-map, option_and_then_some}
use Rattle.fol_base.specs.Tree.{Tree, trees_of, trees_variables}
use Rattle.fol_base.specs.Clause.{TreeLiteral, TreeClause, clause_variables}
use Rattle.fol_base.specs.Canonical.{distinct, numbers_from}
use Rattle.fol_base.specs.Kind.{is_function_term}
use Rattle.fol_base.specs.Literal.{clause_of}
use Rattle.fol_base.specs.Rules.{superposed, resolved, factored, merged}
use Rattle.fol_base.proofs.WorkedExamples.TestLemmas.{if_some, list_all-item, option_map-some}
use Rattle.kernel_steps.specs.Parents.{Parent, Parents}
use Rattle.kernel_steps.specs.Conclusion.{verdict, concludes, by_two}
use Rattle.kernel_steps.specs.Derivation.{AreSteps, continued, line_parent, line_parents, reduced_parents}
use Rattle.kernel_steps.specs.Lines.{AreLines, IsNumbered, clause_parents, has_small_sides, has_small_terms, is_on_literals, is_small_term}
use Rattle.kernel_steps.specs.Soundness.{binds_each}
use Rattle.kernel_steps.specs.Symbols.{symbols_pass, clause_symbols_pass, bound_symbols_pass}
use Rattle.kernel_steps.specs.declared.step.TheConstants.{CLAUSE_NUMBERS}
use Rattle.kernel_steps.specs.declared.step.Step.{Step}
use Rattle.kernel_steps.specs.declared.step.Step.TheVariants.{Para, Refl, Factor, Merge}
use Rattle.kernel_steps.specs.declared.step.Line.{Line}
use Rattle.kernel_steps.proofs.AboutCalls.ParentLemmas.{same-bindings, same-kind}
use Rattle.kernel_steps.proofs.AboutCalls.VerdictParts.{by_two-parts}
use Rattle.kernel_steps.proofs.AboutCalls.SymbolLemmas.{steps_keep_symbols}
use Rattle.reduced_clause.proofs.VerdictLemmas.{by_one-onward, conclusion-onward}
use Rattle.reduced_clause.proofs.LineLemmas.{line_parent-plain}
use Rattle.kernel_steps.specs.ParentNumbers.{with_parents}
use Rattle.given_work.specs.Going.{batch_line, batch_lines, number_beside}

abbrev Lookup : Type 0
Lookup = ℕ → Option TreeClause

-- ---- steps under other numbers

module _ (f : ℕ → ℕ) where
  -- a step whose parents are there under their new numbers concludes the same
  pub renumbered :
      (step : Step) (before after : Parents) (c : TreeClause)
      → is_on_literals step ≡ true
      → ((n : ℕ) (p : Parent) → before n ≡ Some p → after (f n) ≡ Some p)
      → verdict step before ≡ concludes c → verdict (with_parents f step) after ≡ concludes c
  renumbered (Para first second from from_side into into_side place first_bind second_bind) before after c kind onward h =
      let rule : List TreeLiteral → List TreeLiteral → Option (List TreeLiteral) = λ ls ks. superposed ls from from_side ks into into_side place in
      let p = by_two-parts (before first) first_bind (before second) second_bind rule c h in
      ap₂ (λ (o q : Option Parent). by_two o first_bind q second_bind rule)
      (onward first p.source p.first_there ∙ sym p.first_there)
      (onward second p.target p.second_there ∙ sym p.second_there)
      ∙ h
  renumbered (Refl parent literal bind) before after c kind onward h =
      by_one-onward (before parent) (after (f parent)) bind (λ ls. resolved ls literal) c (λ p. onward parent p) h
  renumbered (Factor parent becomes becomes_side other other_side bind) before after c kind onward h =
      by_one-onward (before parent) (after (f parent)) bind (λ ls. factored ls becomes becomes_side other other_side) c (λ p. onward parent p) h
  renumbered (Merge parent stays goes bind) before after c kind onward h =
      by_one-onward (before parent) (after (f parent)) bind (λ ls. merged ls stays goes) c (λ p. onward parent p) h
  renumbered _ before after c kind onward h = absurd (true≢false (sym kind))

  abbrev pub renumbered_line : Line → Line
  renumbered_line l = record l { step = with_parents f l.step }

  same-parent : (l : Line) → is_on_literals l.step ≡ true → line_parent (renumbered_line l) ≡ line_parent l
  same-parent l kind =
      line_parent-plain (renumbered_line l) (same-kind f l.step ∙ kind) ∙ sym (line_parent-plain l kind)

  abbrev OnLiterals : List Line → Type 0
  OnLiterals lines = list_all (λ (l : Line). is_on_literals l.step) lines ≡ true

  parent-there :
      (lines : List Line) (k : ℕ) (p : Parent) → OnLiterals lines
      → line_parents lines k ≡ Some p → line_parents (map renumbered_line lines) k ≡ Some p
  parent-there lines k p kinds h =
      option_and_then_some line_parent (slice_get lines k) p h λ line there is.
      ap (option_and_then line_parent) (slice_get-map renumbered_line lines k ∙ ap (option_map renumbered_line) there)
      ∙ same-parent line (list_all-item (λ (l : Line). is_on_literals l.step) lines k line there kinds) ∙ is

  -- a test on lines that has nothing to do with the numbers of parents
  same-tests :
      (test : Line → Bool) → ((l : Line) → test (renumbered_line l) ≡ test l)
      → (lines : List Line) → list_all test (map renumbered_line lines) ≡ list_all test lines
  same-tests test same [] = refl
  same-tests test same (l ∷ ls) = ap₂ (λ a b. a && b) (same l) (same-tests test same ls)

  binds-same : (test : Tree → Bool) (l : Line) → binds_each test (renumbered_line l).step ≡ binds_each test l.step
  binds-same test l = ap (list_all (list_all test)) (same-bindings f l.step)

  numbered-same : (l : Line) → IsNumbered l → IsNumbered (renumbered_line l)
  numbered-same l is = record {
    canonical = is.canonical;
    bindings =
        subst
        (λ (bs : List (List Tree)).
        let order = distinct (clause_variables (clause_of l.clause) ++ flat_map (λ b. trees_variables (trees_of b)) bs) in
        order ≡ numbers_from 0 (length order))
        (sym (same-bindings f l.step)) is.bindings;
  }

-- ---- lines behind clauses by their numbers

-- each line's clause passes what the clauses and the bindings pass
pub all-pass :
    (told : Lookup) (lines : List Line) (test : ℕ → ℕ → Bool)
    → AreSteps CLAUSE_NUMBERS (clause_parents told) lines
    → ((n : ℕ) (c : TreeClause) → told n ≡ Some c → clause_symbols_pass test c ≡ true)
    → bound_symbols_pass test lines ≡ true
    → list_all (λ (l : Line). clause_symbols_pass test (clause_of l.clause)) lines ≡ true
all-pass told lines test steps passes bound =
    from-items (λ (l : Line). clause_symbols_pass test (clause_of l.clause)) lines
    (steps_keep_symbols test CLAUSE_NUMBERS (clause_parents told) lines outer-passes bound steps)
  where
    from-items : (p : Line → Bool) (ls : List Line) → ((n : ℕ) (l : Line) → slice_get ls n ≡ Some l → p l ≡ true) → list_all p ls ≡ true
    from-items p [] each = refl
    from-items p (l ∷ ls) each = and_from (p l) (list_all p ls) (each 0 l refl) (from-items p ls (λ n k at. each (suc n) k at))

    outer-passes : (n : ℕ) (p : Parent) → clause_parents told n ≡ Some p → clause_symbols_pass test p.clause ≡ true
    outer-passes n p h =
        option_map-some (λ d. let q : Parent = record { clause = d; introduces = false } in q) (told n) p h λ d there is.
        ap (λ (q : Parent). clause_symbols_pass test q.clause) (sym is) ∙ passes n d there

abbrev plain : TreeClause → Parent
plain c = record { clause = c; introduces = false }

-- where a parent of lines of a reduced clause comes from
reduced-cases :
    (outer : Parents) (c : TreeClause) (lines : List Line) (m : ℕ) (p : Parent)
    → continued (CLAUSE_NUMBERS + 1) (reduced_parents outer c) lines m ≡ Some p
    → ((nat_lt m CLAUSE_NUMBERS ≡ true) × (outer m ≡ Some p))
    ⊎ (((m ≡ CLAUSE_NUMBERS) × (plain c ≡ p))
    ⊎ ((j : ℕ) × (m ≡ CLAUSE_NUMBERS + 1 + j) × (line_parents lines j ≡ Some p)))
reduced-cases outer c lines m p h =
    ⊎_elim
    (λ below.
    let at : reduced_parents outer c m ≡ Some p =
    sym (cond-true (nat_lt m (CLAUSE_NUMBERS + 1)) (reduced_parents outer c m) (line_parents lines (m - (CLAUSE_NUMBERS + 1))) below) ∙ h in
    ⊎_elim
    (λ clause.
    inl (clause, sym (cond-true (nat_lt m CLAUSE_NUMBERS) (outer m) (if m == CLAUSE_NUMBERS then Some (plain c) else None) clause) ∙ at))
    (λ other.
    let parts =
    if_some (m == CLAUSE_NUMBERS) (Some (plain c)) p
    (sym (cond-false (nat_lt m CLAUSE_NUMBERS) (outer m) (if m == CLAUSE_NUMBERS then Some (plain c) else None) other) ∙ at) in
    inr (inl (eqb-true m CLAUSE_NUMBERS parts.0, same_Some (plain c) p parts.1)))
    (cases_Bool (nat_lt m CLAUSE_NUMBERS)))
    (λ above.
    let past : CLAUSE_NUMBERS + 1 ≤ m = ltb-false m (CLAUSE_NUMBERS + 1) above in
    let is : m ≡ CLAUSE_NUMBERS + 1 + (m - (CLAUSE_NUMBERS + 1)) = omega (arith, past) in
    inr (inr (
      m - (CLAUSE_NUMBERS + 1),
      is,
      sym (cond-false (nat_lt m (CLAUSE_NUMBERS + 1)) (reduced_parents outer c m) (line_parents lines (m - (CLAUSE_NUMBERS + 1))) above) ∙ h,
    )))
    (cases_Bool (nat_lt m (CLAUSE_NUMBERS + 1)))

-- a clause, and a line, as parents of lines of a batch
outer-there :
    (outer : Parents) (lines : List Line) (m : ℕ) (p : Parent)
    → nat_lt m CLAUSE_NUMBERS ≡ true → outer m ≡ Some p → continued CLAUSE_NUMBERS outer lines m ≡ Some p
outer-there outer lines m p below h = cond-true (nat_lt m CLAUSE_NUMBERS) (outer m) (line_parents lines (m - CLAUSE_NUMBERS)) below ∙ h

line-there :
    (outer : Parents) (lines : List Line) (m j : ℕ) (p : Parent)
    → m ≡ CLAUSE_NUMBERS + j → line_parents lines j ≡ Some p → continued CLAUSE_NUMBERS outer lines m ≡ Some p
line-there outer lines m j p is h =
    let past : CLAUSE_NUMBERS ≤ m = omega (arith, is) in
    let back : m - CLAUSE_NUMBERS ≡ j = omega (arith, is) in
    cond-false (nat_lt m CLAUSE_NUMBERS) (outer m) (line_parents lines (m - CLAUSE_NUMBERS)) (le-ltb m CLAUSE_NUMBERS past)
    ∙ ap (line_parents lines) back ∙ h

-- ---- a told clause that is reduced by others

module _
    (told others : Lookup) (c : TreeClause) (victim : ℕ) (lines : List Line)
    (there : told victim ≡ Some c) (below : nat_lt victim CLAUSE_NUMBERS ≡ true)
    (wider : (n : ℕ) (d : TreeClause) → others n ≡ Some d → told n ≡ Some d)
    (kinds : list_all (λ (l : Line). is_on_literals l.step) lines ≡ true) where
  abbrev number : ℕ → ℕ
  number = number_beside victim

  victim-parents :
      (ls : List Line) (m : ℕ) (p : Parent)
      → list_all (λ (l : Line). is_on_literals l.step) ls ≡ true
      → continued (CLAUSE_NUMBERS + 1) (reduced_parents (clause_parents others) c) ls m ≡ Some p
      → continued CLAUSE_NUMBERS (clause_parents told) (batch_lines victim ls) (number m) ≡ Some p
  victim-parents ls m p on_literals h =
      ⊎_elim
      (λ clause.
      ap (continued CLAUSE_NUMBERS (clause_parents told) (batch_lines victim ls)) (cond-true (nat_lt m CLAUSE_NUMBERS) m (if m == CLAUSE_NUMBERS then victim else m - 1) clause.0)
      ∙ outer-there (clause_parents told) (batch_lines victim ls) m p clause.0
      (option_map-some plain (others m) p clause.1 λ d at is. ap (option_map plain) (wider m d at) ∙ ap Some is))
      (λ further.
      ⊎_elim
      (λ given.
      ap (continued CLAUSE_NUMBERS (clause_parents told) (batch_lines victim ls))
      (ap number given.0)
      ∙ outer-there (clause_parents told) (batch_lines victim ls) victim p below (ap (option_map plain) there ∙ ap Some given.1))
      (λ line.
      let past : CLAUSE_NUMBERS ≤ m = omega (arith, line.1) in
      let off : (m == CLAUSE_NUMBERS) ≡ false = false_from_ne_true (m == CLAUSE_NUMBERS) (λ e. too-large m line.0 line.1 (eqb-true m CLAUSE_NUMBERS e)) in
      let before : m - 1 ≡ CLAUSE_NUMBERS + line.0 = omega (arith, line.1) in
      ap (continued CLAUSE_NUMBERS (clause_parents told) (batch_lines victim ls))
      (cond-false (nat_lt m CLAUSE_NUMBERS) m (if m == CLAUSE_NUMBERS then victim else m - 1) (le-ltb m CLAUSE_NUMBERS past)
      ∙ cond-false (m == CLAUSE_NUMBERS) victim (m - 1) off)
      ∙ line-there (clause_parents told) (batch_lines victim ls) (m - 1) line.0 p before
      (parent-there number ls line.0 p on_literals line.2))
      further)
      (reduced-cases (clause_parents others) c ls m p h)
    where
      too-large : (m j : ℕ) → m ≡ CLAUSE_NUMBERS + 1 + j → m ≡ CLAUSE_NUMBERS → ⊥
      too-large m j is e = omega (arith, is, e)

  pub victim-steps :
      AreSteps (CLAUSE_NUMBERS + 1) (reduced_parents (clause_parents others) c) lines
      → AreSteps CLAUSE_NUMBERS (clause_parents told) (batch_lines victim lines)
  victim-steps steps k line at =
      option_map-some (batch_line victim) (slice_get lines k) line (sym (slice_get-map (batch_line victim) lines k) ∙ at) λ l l_at is.
      ap (λ (b : Line). verdict b.step (continued CLAUSE_NUMBERS (clause_parents told) (take k (batch_lines victim lines)))) (sym is)
      ∙ ap (λ ls. verdict (batch_line victim l).step (continued CLAUSE_NUMBERS (clause_parents told) ls)) (take-map (batch_line victim) k lines)
      ∙ renumbered number l.step (continued (CLAUSE_NUMBERS + 1) (reduced_parents (clause_parents others) c) (take k lines))
      (continued CLAUSE_NUMBERS (clause_parents told) (batch_lines victim (take k lines))) (clause_of l.clause)
      (list_all-item (λ (m : Line). is_on_literals m.step) lines k l l_at kinds)
      (λ m p h. victim-parents (take k lines) m p (list_all-take (λ (m : Line). is_on_literals m.step) k lines kinds) h)
      (steps k l l_at)
      ∙ ap (λ (b : Line). concludes (clause_of b.clause)) is
    where
      list_all-take : (p : Line → Bool) (k : ℕ) (ls : List Line) → list_all p ls ≡ true → list_all p (take k ls) ≡ true
      list_all-take p zero ls h = refl
      list_all-take p (suc k) [] h = refl
      list_all-take p (suc k) (l ∷ ls) h =
          let parts = and_parts (p l) (list_all p ls) h in and_from (p l) (list_all p (take k ls)) parts.0 (list_all-take p k ls parts.1)

  pub victim-lines :
      (is_predicate : ℕ → Bool)
      → AreLines is_predicate (CLAUSE_NUMBERS + 1) (reduced_parents (clause_parents others) c) lines
      → AreLines is_predicate CLAUSE_NUMBERS (clause_parents told) (batch_lines victim lines)
  victim-lines is_predicate are = record {
    kinds = same-tests number (λ (l : Line). is_on_literals l.step) (λ l. same-kind number l.step) lines ∙ kinds;
    steps = victim-steps are.steps;
    numbered = All-map IsNumbered (batch_line victim) lines (All-weaker IsNumbered (λ l. IsNumbered (batch_line victim l)) (λ l is. numbered-same number l is) lines are.numbered);
    terms =
        same-tests number (λ (l : Line). binds_each (is_function_term is_predicate) l.step) (binds-same number (is_function_term is_predicate)) lines
        ∙ are.terms;
    small =
        same-tests number has_small_terms
        (λ l. ap (λ b. list_all has_small_sides (clause_of l.clause).literals && b) (binds-same number is_small_term l)) lines
        ∙ are.small;
  }

  -- what the steps bind is the same
  pub victim-bound : (test : ℕ → ℕ → Bool) → bound_symbols_pass test lines ≡ true → bound_symbols_pass test (batch_lines victim lines) ≡ true
  victim-bound test h =
      same-tests number (λ (l : Line). binds_each (symbols_pass test) l.step) (binds-same number (symbols_pass test)) lines ∙ h

-- ---- an inference, and its conclusion that is reduced

module _
    (told : Lookup) (first : Line) (lines : List Line)
    (few : (n : ℕ) (d : TreeClause) → told n ≡ Some d → nat_lt n CLAUSE_NUMBERS ≡ true)
    (first_kind : is_on_literals first.step ≡ true) where
  abbrev conclusion : TreeClause
  conclusion = clause_of first.clause

  inference-parents :
      (ls : List Line) (m : ℕ) (p : Parent)
      → continued (CLAUSE_NUMBERS + 1) (reduced_parents (clause_parents told) conclusion) ls m ≡ Some p
      → continued CLAUSE_NUMBERS (clause_parents told) (first ∷ ls) m ≡ Some p
  inference-parents ls m p h =
      ⊎_elim
      (λ clause. outer-there (clause_parents told) (first ∷ ls) m p clause.0 clause.1)
      (λ further.
      ⊎_elim
      (λ given.
      let is : m ≡ CLAUSE_NUMBERS + 0 = omega (arith, given.0) in
      line-there (clause_parents told) (first ∷ ls) m 0 p is (line_parent-plain first first_kind ∙ ap Some given.1))
      (λ line.
      let is : m ≡ CLAUSE_NUMBERS + suc line.0 = omega (arith, line.1) in
      line-there (clause_parents told) (first ∷ ls) m (suc line.0) p is line.2)
      further)
      (reduced-cases (clause_parents told) conclusion ls m p h)

  pub inference-steps :
      verdict first.step (clause_parents told) ≡ concludes conclusion
      → list_all (λ (l : Line). is_on_literals l.step) lines ≡ true
      → AreSteps (CLAUSE_NUMBERS + 1) (reduced_parents (clause_parents told) conclusion) lines
      → AreSteps CLAUSE_NUMBERS (clause_parents told) (first ∷ lines)
  inference-steps right kinds steps zero line at =
      ap (λ (l : Line). verdict l.step (continued CLAUSE_NUMBERS (clause_parents told) [])) (sym (same_Some first line at))
      ∙ conclusion-onward first.step (clause_parents told) (continued CLAUSE_NUMBERS (clause_parents told) []) conclusion first_kind
      (λ n p listed h.
      option_map-some plain (told n) p h λ d there is. outer-there (clause_parents told) [] n p (few n d there) h)
      right
      ∙ ap (λ (l : Line). concludes (clause_of l.clause)) (same_Some first line at)
  inference-steps right kinds steps (suc k) line at =
      conclusion-onward line.step (continued (CLAUSE_NUMBERS + 1) (reduced_parents (clause_parents told) conclusion) (take k lines))
      (continued CLAUSE_NUMBERS (clause_parents told) (first ∷ take k lines)) (clause_of line.clause)
      (list_all-item (λ (l : Line). is_on_literals l.step) lines k line at kinds)
      (λ n p listed h. inference-parents (take k lines) n p h)
      (steps k line at)

  pub inference-lines :
      (is_predicate : ℕ → Bool)
      → verdict first.step (clause_parents told) ≡ concludes conclusion
      → IsNumbered first → binds_each (is_function_term is_predicate) first.step ≡ true → has_small_terms first ≡ true
      → AreLines is_predicate (CLAUSE_NUMBERS + 1) (reduced_parents (clause_parents told) conclusion) lines
      → AreLines is_predicate CLAUSE_NUMBERS (clause_parents told) (first ∷ lines)
  inference-lines is_predicate right numbered terms small are = record {
    kinds = and_from (is_on_literals first.step) (list_all (λ (l : Line). is_on_literals l.step) lines) first_kind are.kinds;
    steps = inference-steps right are.kinds are.steps;
    numbered = All-cons IsNumbered first lines numbered are.numbered;
    terms =
        and_from (binds_each (is_function_term is_predicate) first.step)
        (list_all (λ (l : Line). binds_each (is_function_term is_predicate) l.step) lines) terms are.terms;
    small = and_from (has_small_terms first) (list_all has_small_terms lines) small are.small;
  }
