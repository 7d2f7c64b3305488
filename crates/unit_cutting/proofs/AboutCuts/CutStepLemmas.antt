-- A cut as a move: the unit's line, the line of the resolution, and what they lead to.
use Rattle.std.proofs.Common.{◌≡◌, ℕ, zero, suc, ◌+◌, ◌-◌, ◌<◌, ◌≤◌, Bool, true, false, ◌&&◌, ◌||◌, ◌==◌, not, nat_lt, Option, None, Some, List, [], ◌∷◌, ◌++◌, map, refl, ap, ap₂, sym, ◌∙◌, subst, inl, inr, ⊎_elim, arith}
use Rattle.std.specs.Prelude.{filter, option_map, slice_get, sum_by, remove, if◌then◌else◌}
use Rattle.std.specs.List.{list_any}
use Rattle.std.proofs.lemmas.Bool.{true≢false, and_from, and_parts, cond-true, cond-false, le-ltb, lt-ltb, not-true, or_cases}
use Rattle.std.proofs.lemmas.List.Elements.{All-cons, All-nil, filter-append}
use Rattle.std.proofs.lemmas.List.Folds.{list_any-append}
use Rattle.std.proofs.lemmas.List.Sums.{sum_by-cons}
use Rattle.std.proofs.lemmas.Option.{none-some, same_Some}
use Rattle.plain_types.specs.declared.sequence.NameLit.{NameLit}
use Rattle.plain_types.specs.Names.{has_name, same_name, negative_of}
use Rattle.plain_types.proofs.NameLemmas.{same_name-true}
use Rattle.fol_base.specs.Tree.{Tree, is_truth}
use Rattle.fol_base.specs.Instance.{Substitution, instance, substitution}
use Rattle.fol_base.specs.Clause.{TreeLiteral, TreeClause, literal_instance, literal_size, clause_size}
use Rattle.fol_base.specs.Canonical.{canonical_clause}
use Rattle.fol_base.specs.Kind.{is_function_term, is_literal}
use Rattle.fol_base.specs.Literal.{clause_of}
use Rattle.fol_base.specs.Order.{equivalent_literals}
use Rattle.fol_base.specs.Rules.{resolved}
use Rattle.fol_base.specs.Sides.{other_side_of}
use Rattle.fol_base.specs.Subsumption.{assertions, is_among}
use Rattle.fol_base.specs.declared.clause.Side.{Side}
use Rattle.fol_base.specs.declared.limits.TheConstants.{MOST_SYMBOLS, MOST_BOUND_SYMBOLS}
use Rattle.fol_base.proofs.AboutOrders.OrderLemmas.{equivalent_literals-decided}
use Rattle.kernel_steps.specs.Conclusion.{concludes, verdict}
use Rattle.kernel_steps.specs.Derivation.{AreSteps, complement, continued, introduces_name, is_clause_step, line_parent, line_parents}
use Rattle.kernel_steps.specs.Inference.{CutsBy}
use Rattle.kernel_steps.specs.Lines.{IsNumbered, clause_parents, clauses_named, has_small_terms, is_on_literals, step_parents, own_terms}
use Rattle.kernel_steps.specs.Names.{sorted_names}
use Rattle.kernel_steps.specs.Parents.{Parent, Parents}
use Rattle.kernel_steps.specs.Soundness.{binds_each}
use Rattle.kernel_steps.specs.Symbols.{clause_symbols_pass, symbols_pass}
use Rattle.kernel_steps.specs.declared.step.TheConstants.{CLAUSE_NUMBERS}
use Rattle.kernel_steps.specs.declared.step.Step.{Step}
use Rattle.kernel_steps.specs.declared.step.Step.TheVariants.{Para, Refl}
use Rattle.kernel_steps.specs.declared.step.Line.{Line}
use Rattle.kernel_steps.proofs.AboutNames.NameRanks.{sorted_names-same}
use Rattle.unifier.specs.Matching.{by_pairs}
use Rattle.unifier.proofs.AboutLayouts.KindLemmas.{matchers_put_function_terms}
use Rattle.subsume.specs.Kinds.{are_alike}
use Rattle.reduced_clause.specs.Extending.{AreLinesOfMove, parents_with}
use Rattle.unit_cutting.specs.Cutting.{IsFirstLine, IsFitting, before_last, fitting_side, last_index, open_side, turned, unit_terms}
use Rattle.unit_cutting.specs.CutSteps.{CutsTo}
use Rattle.unit_cutting.specs.Fit.{IsFit}
use Rattle.unit_cutting.specs.Removing.{IsOwnStep}
use Rattle.unit_cutting.specs.declared.cutting.Cut.{Cut}
use Rattle.unit_cutting.proofs.AboutLeaving.RemovalLemmas.{resolved-removes}
use Rattle.unit_cutting.proofs.AboutLeaving.MoveLemmas.{IsGood, IsOnOne, good-line, no-symbols, right-step, number-there}
use Rattle.unit_cutting.proofs.AboutCuts.TwoLemmas.{AreTerms, two-good, two-symbols, two-verdict}
use Rattle.unit_cutting.proofs.AboutCuts.CutLemmas.{negative-unit, positive-unit, signs}
use Rattle.unit_cutting.proofs.AboutCuts.UnitLemmas.{own-terms, unit-are, unit-symbols}
use Rattle.unit_cutting.proofs.AboutCuts.CutLineLemmas.{literal-passes, negative-there, sides-before}
use Rattle.unit_cutting.proofs.AboutLeaving.LeavingLemmas.{FirstShape, bounded-first, first-shape, left-canonical, left-small, on-last}
use Rattle.unit_cutting.proofs.AboutCuts.OwnLemmas.{own-at}
use Rattle.list_lemmas.proofs.Bools.{or-absorbed}

-- ---- names

asserted-there :
    (ns : List ℕ) (ms : List NameLit) → is_among ns (assertions ms) ≡ true → (k : NameLit) → has_name k (map negative_of ns) ≡ true → has_name k ms ≡ true
asserted-there [] ms h k e = absurd (true≢false (sym e))
asserted-there (x ∷ ns) ms h k e =
    let both = and_parts (list_any (λ m. x == m) (assertions ms)) (is_among ns (assertions ms)) h in
    ⊎_elim
    (λ here. subst (λ q. has_name q ms ≡ true) (sym (same_name-true k (negative_of x) here)) (negative-there x ms both.0))
    (λ later. asserted-there ns ms both.1 k later)
    (or_cases (same_name k (negative_of x)) (has_name k (map negative_of ns)) e)

absorbed_behind : (b d : Bool) → (d ≡ true → b ≡ true) → (b || d) ≡ b
absorbed_behind true d h = refl
absorbed_behind false true h = absurd (true≢false (sym (h refl)))
absorbed_behind false false h = refl

names-before :
    (ns : List ℕ) (ms : List NameLit) → is_among ns (assertions ms) ≡ true → sorted_names (map negative_of ns ++ ms) ≡ sorted_names ms
names-before ns ms h =
    sorted_names-same (map negative_of ns ++ ms) ms λ k.
    list_any-append (same_name k) (map negative_of ns) ms
    ∙ or-absorbed (has_name k (map negative_of ns)) (has_name k ms) (asserted-there ns ms h k)

names-behind :
    (ns : List ℕ) (ms : List NameLit) → is_among ns (assertions ms) ≡ true → sorted_names (ms ++ map negative_of ns) ≡ sorted_names ms
names-behind ns ms h =
    sorted_names-same (ms ++ map negative_of ns) ms λ k.
    list_any-append (same_name k) ms (map negative_of ns)
    ∙ absorbed_behind (has_name k ms) (has_name k (map negative_of ns)) (asserted-there ns ms h k)

-- ---- the lines

abbrev as_parent : TreeClause → Option Parent
as_parent c = Some (record { clause = c; introduces = false })

-- what is known of the first line
pub record FirstFacts (p : ℕ → Bool) (n number : ℕ) (uc c : TreeClause) (plain : List TreeLiteral) (line : Line) : Type 0 where
  pub good : IsGood p line
  pub shape : FirstShape plain line
  pub right : (parents : Parents) → parents n ≡ as_parent uc → parents number ≡ as_parent c → verdict line.step parents ≡ concludes (clause_of line.clause)
  pub named : filter (λ m. nat_lt m CLAUSE_NUMBERS) (step_parents line.step) ≡ n ∷ []
  pub parent : line_parent line ≡ as_parent (clause_of line.clause)
  pub symbols : (test : ℕ → ℕ → Bool) → clause_symbols_pass test c ≡ true → binds_each (symbols_pass test) line.step ≡ true

module _
    (p : ℕ → Bool) (n : ℕ) (low : n < CLAUSE_NUMBERS) (uc : TreeClause) (u : TreeLiteral) (is_unit : uc.literals ≡ u ∷ [])
    (c : TreeClause) (fit : IsFit c) (number : ℕ) (past : CLAUSE_NUMBERS ≤ number) (l : TreeLiteral) (cut : Cut)
    (there : slice_get c.literals cut.index ≡ Some l) (fits : IsFitting (complement u) l cut.fitting)
    (unit_kind : is_literal p u ≡ true) (kind : is_literal p l ≡ true)
    (ns : List ℕ) (unit_names : uc.names ≡ map negative_of ns) (among : is_among ns (assertions c.names) ≡ true)
    (line : Line) (names : (clause_of line.clause).names ≡ sorted_names c.names) where
  abbrev s : Side
  s = open_side l

  abbrev kept : Tree
  kept = other_side_of s l

  l-small : literal_size l ≤ MOST_SYMBOLS
  l-small = omega (arith, literal_in c.literals cut.index l there, fit.small)
    where
      literal_in : (ls : List TreeLiteral) (k : ℕ) (m : TreeLiteral) → slice_get ls k ≡ Some m → literal_size m ≤ sum_by literal_size ls
      literal_in [] k m at = absurd (none-some m at)
      literal_in (x ∷ ls) zero m at =
          let sum : sum_by literal_size (x ∷ ls) ≡ literal_size x + sum_by literal_size ls = sum_by-cons literal_size x ls in
          let same : literal_size x ≡ literal_size m = ap literal_size (same_Some x m at) in
          omega (arith, sum, same)
      literal_in (x ∷ ls) (suc k) m at =
          let sum : sum_by literal_size (x ∷ ls) ≡ literal_size x + sum_by literal_size ls = sum_by-cons literal_size x ls in
          omega (arith, sum, literal_in ls k m at)

  of_unit : AreTerms p uc (unit_terms uc cut.fitting.terms)
  of_unit = unit-are uc u is_unit l cut.fitting fits p unit_kind kind l-small

  of_clause : AreTerms p c (own_terms c)
  of_clause = own-terms p c (let few : clause_size c ≤ MOST_BOUND_SYMBOLS = omega (arith, fit.small) in few)

  own-symbols : (test : ℕ → ℕ → Bool) (v : ℕ) → symbols_pass test (substitution (own_terms c) v) ≡ true
  own-symbols test v = ap (symbols_pass test) (own-at c v)

  not-low : nat_lt number CLAUSE_NUMBERS ≡ false
  not-low = le-ltb number CLAUSE_NUMBERS past

  is-low : nat_lt n CLAUSE_NUMBERS ≡ true
  is-low = lt-ltb n CLAUSE_NUMBERS low

  is-parent : (first second i j : ℕ) (a b : Side) (fb sb : List Tree) → line.step ≡ Para first second i a j b [] fb sb → line_parent line ≡ as_parent (clause_of line.clause)
  is-parent first second i j a b fb sb of_step =
      ap (λ (st : Step). if is_clause_step st then Some (record { clause = clause_of line.clause; introduces = introduces_name st }) else None) of_step

  -- the unit is positive
  pub first-positive :
      u.positive ≡ true → IsFirstLine false uc n c number l cut line
      → FirstFacts p n number uc c (before_last false c.literals cut.index kept) line
  first-positive sign it =
      let plain : List TreeLiteral = before_last false c.literals cut.index kept in
      let z : Side = fitting_side cut.fitting.crossed s in
      let given = positive-unit uc u is_unit l cut.fitting fits c cut.index there sign in
      record {
        good = two-good p uc c n number 0 cut.index z s (unit_terms uc cut.fitting.terms) (own_terms c) of_unit of_clause line plain given it
            (sides-before false c.literals cut.index l there fit.small);
        shape = first-shape uc u is_unit c l cut there fits n number line false sign it;
        right = λ parents unit_there clause_there.
            two-verdict p uc c n number 0 cut.index z s (unit_terms uc cut.fitting.terms) (own_terms c) of_unit of_clause line plain given it
            parents unit_there clause_there
            (names ∙ sym (names-before ns c.names among) ∙ ap (λ ms. sorted_names (ms ++ c.names)) (sym unit_names));
        named =
            ap (λ (st : Step). filter (λ m. nat_lt m CLAUSE_NUMBERS) (step_parents st)) it.of_step
            ∙ cond-true (nat_lt n CLAUSE_NUMBERS) (n ∷ rest) rest is-low
            ∙ ap (λ ms. n ∷ ms) (cond-false (nat_lt number CLAUSE_NUMBERS) (number ∷ []) [] not-low);
        parent = is-parent n number 0 cut.index z s it.first_bind it.second_bind it.of_step;
        symbols = λ test pass.
            two-symbols p uc c n number 0 cut.index z s (unit_terms uc cut.fitting.terms) (own_terms c) of_unit of_clause line plain given it test
            (unit-symbols uc u is_unit l cut.fitting fits test (literal-passes test c.literals cut.index l there pass)) (λ v less. own-symbols test v);
      }
    where
      rest : List ℕ
      rest = if nat_lt number CLAUSE_NUMBERS then number ∷ [] else []

  -- the unit is negative
  pub first-negative :
      u.positive ≡ false → IsFirstLine true uc n c number l cut line
      → FirstFacts p n number uc c (before_last true c.literals cut.index kept) line
  first-negative sign it =
      let plain : List TreeLiteral = before_last true c.literals cut.index kept in
      let z : Side = fitting_side cut.fitting.crossed s in
      let given = negative-unit uc u is_unit l cut.fitting fits c cut.index there sign in
      record {
        good = two-good p c uc number n cut.index 0 s z (own_terms c) (unit_terms uc cut.fitting.terms) of_clause of_unit line plain given it
            (sides-before true c.literals cut.index l there fit.small);
        shape = first-shape uc u is_unit c l cut there fits n number line true sign it;
        right = λ parents unit_there clause_there.
            two-verdict p c uc number n cut.index 0 s z (own_terms c) (unit_terms uc cut.fitting.terms) of_clause of_unit line plain given it
            parents clause_there unit_there
            (names ∙ sym (names-behind ns c.names among) ∙ ap (λ ms. sorted_names (c.names ++ ms)) (sym unit_names));
        named =
            ap (λ (st : Step). filter (λ m. nat_lt m CLAUSE_NUMBERS) (step_parents st)) it.of_step
            ∙ cond-false (nat_lt number CLAUSE_NUMBERS) (number ∷ rest) rest not-low
            ∙ cond-true (nat_lt n CLAUSE_NUMBERS) (n ∷ []) [] is-low;
        parent = is-parent number n cut.index 0 s z it.first_bind it.second_bind it.of_step;
        symbols = λ test pass.
            two-symbols p c uc number n cut.index 0 s z (own_terms c) (unit_terms uc cut.fitting.terms) of_clause of_unit line plain given it test
            (λ v less. own-symbols test v) (unit-symbols uc u is_unit l cut.fitting fits test (literal-passes test c.literals cut.index l there pass));
      }
    where
      rest : List ℕ
      rest = if nat_lt n CLAUSE_NUMBERS then n ∷ [] else []

-- ---- the move

-- the literals of the unit's complement are those of the literal that is cut, sides in either order
matched :
    (u l : TreeLiteral) (σ : Substitution) (crossed : Bool) → not u.positive ≡ l.positive
    → instance σ u.left ≡ (turned crossed l).left → instance σ u.right ≡ (turned crossed l).right
    → equivalent_literals (literal_instance σ (complement u)) l ≡ true
matched u l σ true sign left right = (equivalent_literals-decided (literal_instance σ (complement u)) l).1 (sign, inr (left, right))
matched u l σ false sign left right = (equivalent_literals-decided (literal_instance σ (complement u)) l).1 (sign, inl (left, right))

-- where a literal fits the unit's complement, the unit cuts it
pub cut-by :
    (p : ℕ → Bool) (uc : TreeClause) (u : TreeLiteral) → uc.literals ≡ u ∷ [] → (c : TreeClause) (l : TreeLiteral) (cut : Cut)
    → slice_get c.literals cut.index ≡ Some l → IsFitting (complement u) l cut.fitting → is_literal p u ≡ true → is_literal p l ≡ true
    → is_among (assertions uc.names) (assertions c.names) ≡ true
    → CutsBy p uc c (record { literals = remove c.literals cut.index; names = c.names })
cut-by p uc u is_unit c l cut there fits unit_kind kind among = record {
  unit_literal = u;
  is_unit = is_unit;
  j = cut.index;
  literal = l;
  literal_there = there;
  no_truths = not-true (is_truth l.left && is_truth l.right)
      (and_parts (are_alike (complement u) l) (not (is_truth l.left && is_truth l.right)) fits.may).1;
  matcher = by_pairs cut.fitting.terms;
  function_terms = (matchers_put_function_terms p cut.fitting.terms 0 (fits.function_terms p unit_kind kind)).0;
  matches = matched u l (by_pairs cut.fitting.terms) cut.fitting.crossed (signs uc u is_unit l cut.fitting fits) fits.turns.left fits.turns.right;
  asserted = among;
  gives = refl;
  names = refl;
}

module _
    (p : ℕ → Bool) (clauses : ℕ → Option TreeClause) (n : ℕ) (low : n < CLAUSE_NUMBERS) (uc : TreeClause) (unit_there : clauses n ≡ Some uc)
    (u : TreeLiteral) (is_unit : uc.literals ≡ u ∷ []) (c : TreeClause) (fit : IsFit c) (number : ℕ) (past : CLAUSE_NUMBERS ≤ number)
    (l : TreeLiteral) (cut : Cut) (there : slice_get c.literals cut.index ≡ Some l) (fits : IsFitting (complement u) l cut.fitting)
    (unit_kind : is_literal p u ≡ true) (kind : is_literal p l ≡ true) (among : is_among (assertions uc.names) (assertions c.names) ≡ true)
    (first second : Line) (names : (clause_of first.clause).names ≡ sorted_names c.names) (positive : Bool)
    (facts : FirstFacts p n number uc c (before_last positive c.literals cut.index (other_side_of (open_side l) l)) first)
    (own : IsOwnStep (λ ls. resolved ls (last_index positive cut.index)) (λ bind. Refl (number + 1) (last_index positive cut.index) bind)
    (clause_of first.clause) second) where
  abbrev plain : List TreeLiteral
  plain = before_last positive c.literals cut.index (other_side_of (open_side l) l)

  abbrev k : ℕ
  k = last_index positive cut.index

  abbrev d : TreeClause
  d = clause_of first.clause

  abbrev e : TreeClause
  e = clause_of second.clause

  abbrev rule : List TreeLiteral → Option (List TreeLiteral)
  rule ls = resolved ls k

  abbrev outer : Parents
  outer = parents_with (clause_parents clauses) number c

  on : IsOnOne rule (number + 1) own.bind second.step
  on = on-last c fit number l cut.index there positive first second names facts.shape own

  bounded : clause_size d ≤ MOST_BOUND_SYMBOLS
  bounded = bounded-first c fit number l cut.index there positive first second names facts.shape own

  left_small : sum_by literal_size (remove d.literals k) ≤ MOST_SYMBOLS
  left_small = left-small c fit number l cut.index there positive first second names facts.shape own

  good : IsGood p second
  good = good-line rule k (resolved-removes k) (number + 1) d bounded left_small second own.bind on own.gives p

  unit-parent : continued (number + 1) outer [] n ≡ as_parent uc
  unit-parent =
      let less : n < number + 1 = omega (arith, low, past) in
      cond-true (nat_lt n (number + 1)) (outer n) None (lt-ltb n (number + 1) less)
      ∙ cond-true (nat_lt n CLAUSE_NUMBERS) (clause_parents clauses n) (if n == number then as_parent c else None) (lt-ltb n CLAUSE_NUMBERS low)
      ∙ ap (option_map (λ q. let o : Parent = record { clause = q; introduces = false } in o)) unit_there

  first-parent : continued (number + 1) outer (first ∷ []) (number + 1) ≡ as_parent d
  first-parent =
      let zero-left : (number + 1) - (number + 1) ≡ 0 = omega arith in
      cond-false (nat_lt (number + 1) (number + 1)) (outer (number + 1)) (line_parents (first ∷ []) ((number + 1) - (number + 1)))
      (le-ltb (number + 1) (number + 1) (omega arith))
      ∙ ap (line_parents (first ∷ [])) zero-left
      ∙ facts.parent

  steps : AreSteps (number + 1) outer (first ∷ second ∷ [])
  steps zero other at =
      subst (λ (x : Line). verdict x.step (continued (number + 1) outer []) ≡ concludes (clause_of x.clause)) (same_Some first other at)
      (facts.right (continued (number + 1) outer []) unit-parent (number-there clauses number c past))
  steps (suc zero) other at =
      subst (λ (x : Line). verdict x.step (continued (number + 1) outer (first ∷ [])) ≡ concludes (clause_of x.clause)) (same_Some second other at)
      (right-step rule k (resolved-removes k) (number + 1) d bounded left_small second own.bind on own.gives
      (continued (number + 1) outer (first ∷ [])) first-parent)
  steps (suc (suc m)) other at = absurd (none-some other at)

  named : clauses_named (first ∷ second ∷ []) ≡ n ∷ []
  named =
      filter-append (λ m. nat_lt m CLAUSE_NUMBERS) (step_parents first.step) (step_parents second.step ++ [])
      ∙ ap₂ ◌++◌ facts.named
      (ap (λ ms. filter (λ m. nat_lt m CLAUSE_NUMBERS) (ms ++ [])) on.parent
      ∙ cond-false (nat_lt (number + 1) CLAUSE_NUMBERS) ((number + 1) ∷ []) [] (le-ltb (number + 1) CLAUSE_NUMBERS (omega (arith, past))))

  abbrev left : TreeClause
  left = record { literals = remove c.literals cut.index; names = c.names }

  is-left : e ≡ canonical_clause left
  is-left = left-canonical c fit number l cut.index there positive first second names facts.shape own

  cuts : CutsBy p uc c left
  cuts = cut-by p uc u is_unit c l cut there fits unit_kind kind among

  pub cut-lines : AreLinesOfMove p clauses c number (record { by = Some n; gives = e }) (first ∷ second ∷ [])
  cut-lines = record {
    are_lines = record {
      kinds = and_from (is_on_literals first.step) (is_on_literals second.step && true) facts.good.kind (and_from (is_on_literals second.step) true good.kind refl);
      steps = steps;
      numbered =
          All-cons IsNumbered first (second ∷ []) facts.good.numbered (All-cons IsNumbered second [] good.numbered (All-nil IsNumbered));
      terms =
          and_from (binds_each (is_function_term p) first.step) (binds_each (is_function_term p) second.step && true) facts.good.terms
          (and_from (binds_each (is_function_term p) second.step) true good.terms refl);
      small = and_from (has_small_terms first) (has_small_terms second && true) facts.good.small (and_from (has_small_terms second) true good.small refl);
    };
    named = named;
    symbols = λ test truth passes each.
        and_from (binds_each (symbols_pass test) first.step) (binds_each (symbols_pass test) second.step && true) (facts.symbols test passes)
        (and_from (binds_each (symbols_pass test) second.step) true
        (no-symbols rule k (resolved-removes k) (number + 1) d bounded left_small second own.bind on own.gives test) refl);
    ends = refl;
    moved = record {
      result = left;
      step = record {
        clause = uc;
        there = unit_there;
        infers = inr cuts;
      };
      canonical = is-left;
    };
  }

  pub cut-to : CutsTo p uc c e
  cut-to = record {
    result = left;
    cuts = cuts;
    canonical = is-left;
  }
