-- A line by which one literal of a clause goes makes a move.
use Rattle.std.proofs.Common.{◌≡◌, ℕ, zero, suc, ◌+◌, ◌<◌, ◌≤◌, Bool, true, false, ◌==◌, Option, None, Some, List, [], ◌∷◌, ◌++◌, length, append-nil, refl, ap, ap₂, sym, ◌∙◌, subst, arith}
use Rattle.std.specs.Prelude.{◌⊎◌, sum_by, filter, flat_map, remove, nat_lt, if◌then◌else◌}
use Rattle.std.specs.List.{list_all}
use Rattle.std.proofs.lemmas.Bool.{cond-true, cond-false, and_from, eq-eqb, le-ltb, lt-ltb, le-leb}
use Rattle.std.proofs.lemmas.List.{length-map}
use Rattle.std.proofs.lemmas.List.Elements.{All-cons, All-nil}
use Rattle.std.proofs.lemmas.List.Sums.{sum_by-cons}
use Rattle.std.proofs.lemmas.Option.{none-some, same_Some}
use Rattle.plain_types.specs.declared.sequence.NameLit.{NameLit}
use Rattle.fol_base.specs.Tree.{Tree, tree_size, trees_of, trees_variables}
use Rattle.fol_base.specs.Instance.{instance, substitution}
use Rattle.fol_base.specs.Clause.{TreeLiteral, TreeClause, literal_size, literal_variables, clause_size, clause_instance, clause_variables}
use Rattle.fol_base.specs.Ground.{literals_instance}
use Rattle.fol_base.specs.Canonical.{canonical_clause, distinct, numbers_from, renaming, bound_of}
use Rattle.fol_base.specs.Kind.{is_function_term}
use Rattle.fol_base.specs.Numbering.{with_variables}
use Rattle.fol_base.specs.Literal.{clause_of}
use Rattle.fol_base.specs.declared.limits.TheConstants.{MOST_SYMBOLS, MOST_BOUND_SYMBOLS}
use Rattle.fol_base.proofs.AboutInstances.InstanceLemmas.{literals-agree}
use Rattle.fol_base.proofs.AboutCanonical.NumberingLemmas.{all_met}
use Rattle.fol_base.proofs.AboutCanonical.WalkLemmas.{renaming-kept}
use Rattle.kernel_steps.specs.Parents.{Parent, Parents}
use Rattle.kernel_steps.specs.Conclusion.{by_one, concludes, verdict}
use Rattle.kernel_steps.specs.Derivation.{AreSteps, continued}
use Rattle.kernel_steps.specs.Inference.{DropsTrivial, MergesEqual}
use Rattle.kernel_steps.specs.Lines.{IsNumbered, clause_parents, clauses_named, has_small_sides, has_small_terms, is_on_literals, is_small_term, step_parents, own_terms}
use Rattle.kernel_steps.specs.Soundness.{bindings_of, binds_each}
use Rattle.kernel_steps.specs.Symbols.{symbols_pass}
use Rattle.kernel_steps.specs.declared.step.TheConstants.{CLAUSE_NUMBERS}
use Rattle.kernel_steps.specs.declared.step.Step.{Step}
use Rattle.kernel_steps.specs.declared.step.Line.{Line}
use Rattle.kernel_steps.proofs.AboutNames.NameRanks.{sorted-same}
use Rattle.eq_rules.specs.Concluding.{GivesNumbered}
use Rattle.eq_rules.proofs.AboutConclusions.BindingLemmas.{bound_functions, bound_small, bound_symbols}
use Rattle.eq_rules.proofs.AboutConclusions.ConclusionLemmas.{conclusion_numbered, bindings_numbered, binds_renamed, verdict_by_one, numbered_literals, numbered_first}
use Rattle.eq_rules.proofs.AboutConclusions.WideLemmas.{renamed-literals_size}
use Rattle.reduced_clause.specs.Extending.{AreLinesOfMove, parents_with}
use Rattle.unit_cutting.specs.Fit.{IsFit}
use Rattle.unit_cutting.proofs.AboutCuts.OwnLemmas.{own-many, own-below, own-literals, own-clause, own-functions, own-no_truth, own-small, own-at}
use Rattle.unit_cutting.proofs.AboutLeaving.RemovalLemmas.{Rule, Removes}

-- ---- canonical forms and sizes

-- no side of a clause that isn't too large is
pub small_sides : (ls : List TreeLiteral) (most : ℕ) → sum_by literal_size ls ≤ most → most ≤ MOST_SYMBOLS → list_all has_small_sides ls ≡ true
small_sides [] most h few = refl
small_sides (l ∷ ls) most h few =
    let sum : sum_by literal_size (l ∷ ls) ≡ literal_size l + sum_by literal_size ls = sum_by-cons literal_size l ls in
    let left : tree_size l.left ≤ MOST_SYMBOLS = omega (arith, sum, h, few) in
    let right : tree_size l.right ≤ MOST_SYMBOLS = omega (arith, sum, h, few) in
    let rest : sum_by literal_size ls ≤ most = omega (arith, sum, h) in
    and_from (has_small_sides l) (list_all has_small_sides ls)
    (and_from (is_small_term l.left) (is_small_term l.right) (le-leb (tree_size l.left) MOST_SYMBOLS left) (le-leb (tree_size l.right) MOST_SYMBOLS right))
    (small_sides ls most rest few)

-- ---- one line

-- the clause of a number among the parents
pub number-there :
    (clauses : ℕ → Option TreeClause) (number : ℕ) (c : TreeClause) → CLAUSE_NUMBERS ≤ number
    → continued (number + 1) (parents_with (clause_parents clauses) number c) [] number ≡ Some (record { clause = c; introduces = false })
number-there clauses number c past =
    let less : number < number + 1 = omega arith in
    let p : Parent = record { clause = c; introduces = false } in
    cond-true (nat_lt number (number + 1)) (parents_with (clause_parents clauses) number c number) None (lt-ltb number (number + 1) less)
    ∙ cond-false (nat_lt number CLAUSE_NUMBERS) (clause_parents clauses number) (if number == number then Some p else None)
    (le-ltb number CLAUSE_NUMBERS past)
    ∙ cond-true (number == number) (Some p) None (eq-eqb number number refl)

-- a line whose only parent is no clause by its number names none
none-named : (number : ℕ) → CLAUSE_NUMBERS ≤ number → (line : Line) → step_parents line.step ≡ number ∷ [] → clauses_named (line ∷ []) ≡ []
none-named number past line parent =
    ap (λ ns. filter (λ n. nat_lt n CLAUSE_NUMBERS) (ns ++ [])) parent
    ∙ cond-false (nat_lt number CLAUSE_NUMBERS) (number ∷ []) [] (le-ltb number CLAUSE_NUMBERS past)

-- what is asked of a step on one clause
pub record IsOnOne (rule : Rule) (number : ℕ) (bind : List Tree) (step : Step) : Type 0 where
  pub on_literals : is_on_literals step ≡ true
  pub by_rule : (parents : Parents) → verdict step parents ≡ by_one (parents number) bind rule
  pub binds : bindings_of step ≡ bind ∷ []
  pub parent : step_parents step ≡ number ∷ []

-- what is asked of each line, by itself
pub record IsGood (p : ℕ → Bool) (line : Line) : Type 0 where
  pub kind : is_on_literals line.step ≡ true
  pub numbered : IsNumbered line
  pub terms : binds_each (is_function_term p) line.step ≡ true
  pub small : has_small_terms line ≡ true

-- what is left is no larger
pub smaller-removed : (ls : List TreeLiteral) (k : ℕ) → sum_by literal_size (remove ls k) ≤ sum_by literal_size ls
smaller-removed [] zero = omega arith
smaller-removed [] (suc k) = omega arith
smaller-removed (l ∷ ls) zero =
    let s : sum_by literal_size (l ∷ ls) ≡ literal_size l + sum_by literal_size ls = sum_by-cons literal_size l ls in omega (arith, s)
smaller-removed (l ∷ ls) (suc k) =
    let s : sum_by literal_size (l ∷ ls) ≡ literal_size l + sum_by literal_size ls = sum_by-cons literal_size l ls in
    let r : sum_by literal_size (l ∷ remove ls k) ≡ literal_size l + sum_by literal_size (remove ls k) = sum_by-cons literal_size l (remove ls k) in
    omega (arith, s, r, smaller-removed ls k)

-- the line of one clause from which a literal goes
module _
    (rule : Rule) (i : ℕ) (removes : Removes rule i) (number : ℕ) (c : TreeClause)
    (bounded : clause_size c ≤ MOST_BOUND_SYMBOLS) (left_small : sum_by literal_size (remove c.literals i) ≤ MOST_SYMBOLS)
    (line : Line) (bind : List Tree) (on : IsOnOne rule number bind line.step)
    (g : GivesNumbered rule c (own_terms c) bind (clause_of line.clause)) where
  abbrev d : TreeClause
  d = clause_of line.clause

  abbrev own : List TreeLiteral
  own = literals_instance (substitution (own_terms c)) c.literals

  pub d-literals : d.literals ≡ literals_instance (renaming g.order) g.plain
  d-literals = numbered_literals rule c (own_terms c) bind d g (removes.onward (renaming g.order) own g.plain) (own-below c)

  pub plain-left : remove c.literals i ≡ g.plain
  plain-left = ap (λ ls. remove ls i) (sym (own-literals c)) ∙ removes.parts own g.plain g.given

  pub d-canonical : d.literals ≡ (canonical_clause (record { literals = remove c.literals i; names = c.names })).literals
  d-canonical =
      d-literals ∙ numbered_first g.plain (trees_variables (trees_of (own_terms c))) g.order g.met
      ∙ ap (λ ls. literals_instance (renaming (distinct (flat_map literal_variables ls))) ls) (sym plain-left)

  d-small : clause_size d ≤ MOST_SYMBOLS
  d-small =
      let size : clause_size d ≡ sum_by literal_size g.plain = ap (sum_by literal_size) d-literals ∙ renamed-literals_size g.order g.plain in
      let same : sum_by literal_size (remove c.literals i) ≡ sum_by literal_size g.plain = ap (sum_by literal_size) plain-left in
      omega (arith, size, same, left_small)

  pub right-step :
      (parents : Parents) → parents number ≡ Some (record { clause = c; introduces = false }) → verdict line.step parents ≡ concludes d
  right-step parents there =
      let many : length bind ≡ bound_of (clause_variables c) =
      ap length g.renamed ∙ length-map (own_terms c) (instance (renaming g.order)) ∙ own-many c in
      let size : clause_size (clause_instance (substitution (own_terms c)) c) ≤ MOST_BOUND_SYMBOLS =
      (let same : clause_size (clause_instance (substitution (own_terms c)) c) ≡ clause_size c = ap clause_size (own-clause c) in
      omega (arith, same, bounded)) in
      on.by_rule parents
      ∙ verdict_by_one parents number c d bind rule there
      (binds_renamed c g.order (own_terms c) bind g.renamed many (own-below c) (own-no_truth c) size) g.gives g.names

  bound-order : flat_map (λ b. trees_variables (trees_of b)) (bindings_of line.step) ≡ trees_variables (trees_of bind)
  bound-order = ap (flat_map (λ b. trees_variables (trees_of b))) on.binds ∙ append-nil (trees_variables (trees_of bind))

  each-bound : (test : Tree → Bool) → list_all test bind ≡ true → binds_each test line.step ≡ true
  each-bound test all = ap (list_all (list_all test)) on.binds ∙ and_from (list_all test bind) true all refl

  pub good-line : (p : ℕ → Bool) → IsGood p line
  good-line p = record {
    kind = on.on_literals;
    numbered = record {
      canonical = conclusion_numbered g.plain (trees_variables (trees_of (own_terms c))) g.order d g.met d-literals;
      bindings =
          subst (λ vs. distinct (clause_variables d ++ vs) ≡ numbers_from 0 (length (distinct (clause_variables d ++ vs)))) (sym bound-order)
          (bindings_numbered g.plain (own_terms c) bind g.order d g.met g.renamed d-literals);
    };
    terms = each-bound (is_function_term p) (bound_functions p g.order (own_terms c) bind g.renamed (own-functions p c));
    small =
        and_from (list_all has_small_sides d.literals) (binds_each is_small_term line.step)
        (small_sides d.literals MOST_SYMBOLS d-small (omega arith))
        (each-bound is_small_term (bound_small g.order (own_terms c) bind g.renamed (λ v less. one (own-small c v))));
  }
    where
      one : {n : ℕ} → n ≡ 1 → n ≤ MOST_SYMBOLS
      one e = omega (arith, e)

  pub no-symbols : (test : ℕ → ℕ → Bool) → binds_each (symbols_pass test) line.step ≡ true
  no-symbols test =
      each-bound (symbols_pass test)
      (bound_symbols test g.order (own_terms c) bind g.renamed (λ v less. ap (symbols_pass test) (own-at c v)))

-- one such line makes a move
module _
    (rule : Rule) (i : ℕ) (removes : Removes rule i) (number : ℕ) (past : CLAUSE_NUMBERS ≤ number)
    (c : TreeClause) (fit : IsFit c) (line : Line) (bind : List Tree) (on : IsOnOne rule number bind line.step)
    (g : GivesNumbered rule c (own_terms c) bind (clause_of line.clause))
    (drops : (d : TreeClause) → rule c.literals ≡ Some d.literals → d.names ≡ c.names → DropsTrivial c d ⊎ MergesEqual c d) where
  abbrev e : TreeClause
  e = clause_of line.clause

  bounded : clause_size c ≤ MOST_BOUND_SYMBOLS
  bounded = omega (arith, fit.small)

  left_small : sum_by literal_size (remove c.literals i) ≤ MOST_SYMBOLS
  left_small = omega (arith, smaller-removed c.literals i, fit.small)

  pub removal-lines :
      (p : ℕ → Bool) (clauses : ℕ → Option TreeClause)
      → AreLinesOfMove p clauses c number (record { by = None; gives = e }) (line ∷ [])
  removal-lines p clauses =
      let good : IsGood p line = good-line rule i removes number c bounded left_small line bind on g p in
      record {
        are_lines = record {
          kinds = and_from (is_on_literals line.step) true good.kind refl;
          steps = steps;
          numbered = All-cons IsNumbered line [] good.numbered (All-nil IsNumbered);
          terms = and_from (binds_each (is_function_term p) line.step) true good.terms refl;
          small = and_from (has_small_terms line) true good.small refl;
        };
        named = none-named number past line on.parent;
        symbols = λ test truth passes all.
            and_from (binds_each (symbols_pass test) line.step) true (no-symbols rule i removes number c bounded left_small line bind on g test) refl;
        ends = refl;
        moved = record {
          result = left;
          step = drops left gives refl;
          canonical =
              ap₂ (λ (ls : List TreeLiteral) (ns : List NameLit). let f : TreeClause = record { literals = ls; names = ns } in f)
              (d-canonical rule i removes number c bounded left_small line bind on g) (g.names ∙ sym (sorted-same c.names fit.names));
        };
      }
    where
      left : TreeClause
      left = record { literals = remove c.literals i; names = c.names }

      gives : rule c.literals ≡ Some left.literals
      gives =
          ap rule (sym (own-literals c)) ∙ g.given
          ∙ ap (λ (ls : List TreeLiteral). let o : Option (List TreeLiteral) = Some ls in o)
          (sym (plain-left rule i removes number c bounded left_small line bind on g))

      steps : AreSteps (number + 1) (parents_with (clause_parents clauses) number c) (line ∷ [])
      steps zero other there =
          subst (λ (l : Line). verdict l.step (continued (number + 1) (parents_with (clause_parents clauses) number c) []) ≡ concludes (clause_of l.clause))
          (same_Some line other there)
          (right-step rule i removes number c bounded left_small line bind on g
          (continued (number + 1) (parents_with (clause_parents clauses) number c) []) (number-there clauses number c past))
      steps (suc n) other there = absurd (none-some other there)
