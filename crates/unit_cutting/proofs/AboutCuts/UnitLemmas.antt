-- What a unit's variables become where it cuts: function terms that are no larger than the literal that is cut, and have its symbols.
use Rattle.std.proofs.Common.{◌≡◌, ◌⊎◌, ℕ, ◌+◌, ◌<◌, ◌≤◌, Bool, true, false, ◌==◌, Option, Some, List, [], ◌∷◌, length, map, refl, ap, ap₂, sym, ◌∙◌, inl, inr, ⊎_elim, arith}
use Rattle.std.specs.Prelude.{sum_by, unwrap_or}
use Rattle.std.proofs.lemmas.Bool.{and_parts, cases_Bool, cond-true, cond-false, eqb-true}
use Rattle.std.proofs.lemmas.List.Sums.{sum_by-cons}
use Rattle.fol_base.specs.Tree.{Tree, variable, application, Trees, no_trees, tree_then, tree_size, trees_count}
use Rattle.fol_base.specs.Instance.{Substitution, instance, instances, substitution}
use Rattle.fol_base.specs.Clause.{TreeLiteral, TreeClause, literal_instance, literal_size, clause_instance, clause_size, clause_variables}
use Rattle.fol_base.specs.Canonical.{bound_of}
use Rattle.fol_base.specs.Kind.{is_literal, PutsFunctionTerms}
use Rattle.fol_base.specs.declared.limits.TheConstants.{MOST_SYMBOLS, MOST_BOUND_SYMBOLS}
use Rattle.fol_base.proofs.AboutTerms.KindLemmas.{puts_no_truth}
use Rattle.kernel_steps.specs.Derivation.{complement}
use Rattle.kernel_steps.specs.Symbols.{symbols_pass, all_symbols_pass, literal_symbols_pass}
use Rattle.unifier.specs.Matching.{by_pairs, HasPairs, term_for}
use Rattle.unifier.proofs.AboutLayouts.KindLemmas.{matchers_put_function_terms}
use Rattle.unifier.proofs.AboutMatching.MatchLemmas.{Pairs}
use Rattle.eq_rules.proofs.AboutConclusions.BindingLemmas.{SymbolTest, changed, changed_there, smaller_or_same}
use Rattle.unit_cutting.specs.Cutting.{IsFitting, turned, unit_terms}
use Rattle.kernel_steps.specs.Lines.{own_terms}
use Rattle.unit_cutting.specs.declared.matching.Fitting.{Fitting}
use Rattle.unit_cutting.proofs.AboutCuts.CutLemmas.{unit-many, unit-below, unit-at, made-left, made-right}
use Rattle.unit_cutting.proofs.AboutCuts.OwnLemmas.{own-many, own-below, own-clause, own-functions, own-no_truth, own-small}
use Rattle.unit_cutting.proofs.AboutCuts.TwoLemmas.{AreTerms}

-- the own terms of a clause that isn't too large
pub own-terms : (p : ℕ → Bool) (c : TreeClause) → clause_size c ≤ MOST_BOUND_SYMBOLS → AreTerms p c (own_terms c)
own-terms p c few = record {
  many = own-many c;
  below = own-below c;
  no_truth = own-no_truth c;
  bounded = (let same : clause_size (clause_instance (substitution (own_terms c)) c) ≡ clause_size c = ap clause_size (own-clause c) in omega (arith, same, few));
  functions = own-functions p c;
  small = λ v less. omega (arith, own-small c v);
}

-- ---- pairs

-- a substitution that has the pairs gives a variable what they do, where they have it
pairs-say : (pairs : Pairs) (τ : Substitution) (v : ℕ) → HasPairs pairs τ → (by_pairs pairs v ≡ τ v) ⊎ (by_pairs pairs v ≡ variable v)
pairs-say [] τ v has = inr refl
pairs-say (q ∷ qs) τ v has =
    ⊎_elim
    (λ same.
    inl (ap (λ (o : Option Tree). unwrap_or o (variable v)) (cond-true (v == q.0) (Some q.1) (term_for v qs) same)
    ∙ sym has.0 ∙ ap τ (sym (eqb-true v q.0 same))))
    (λ other.
    let step : by_pairs (q ∷ qs) v ≡ by_pairs qs v =
    ap (λ (o : Option Tree). unwrap_or o (variable v)) (cond-false (v == q.0) (Some q.1) (term_for v qs) other) in
    ⊎_elim (λ e. inl (step ∙ e)) (λ e. inr (step ∙ e)) (pairs-say qs τ v has.1))
    (cases_Bool (v == q.0))

-- either what a variable becomes passes, or the variable doesn't matter
mutual
  passes_or_same :
      (test : SymbolTest) (σ : Substitution) (v : ℕ) (t : Tree) → symbols_pass test (instance σ t) ≡ true
      → (symbols_pass test (σ v) ≡ true) ⊎ (instance (changed σ v) t ≡ instance σ t)
  passes_or_same test σ v (variable w) h =
      ⊎_elim
      (λ e. inl (ap (λ u. symbols_pass test (σ u)) (sym (eqb-true w v e)) ∙ h))
      (λ e. inr (cond-false (w == v) (variable 0) (σ w) e))
      (cases_Bool (w == v))
  passes_or_same test σ v (application f ts) h =
      ⊎_elim (λ pass. inl pass) (λ same. inr (ap (application f) same))
      (all_passes_or_same test σ v ts (and_parts (test f (trees_count (instances σ ts))) (all_symbols_pass test (instances σ ts)) h).1)

  all_passes_or_same :
      (test : SymbolTest) (σ : Substitution) (v : ℕ) (ts : Trees) → all_symbols_pass test (instances σ ts) ≡ true
      → (symbols_pass test (σ v) ≡ true) ⊎ (instances (changed σ v) ts ≡ instances σ ts)
  all_passes_or_same test σ v no_trees h = inr refl
  all_passes_or_same test σ v (tree_then t ts) h =
      let both = and_parts (symbols_pass test (instance σ t)) (all_symbols_pass test (instances σ ts)) h in
      ⊎_elim
      (λ pass. inl pass)
      (λ same. ⊎_elim (λ pass. inl pass) (λ rest. inr (ap₂ tree_then same rest)) (all_passes_or_same test σ v ts both.1))
      (passes_or_same test σ v t both.0)

-- ---- the unit's terms

module _
    (uc : TreeClause) (u : TreeLiteral) (is_unit : uc.literals ≡ u ∷ []) (l : TreeLiteral) (f : Fitting) (fits : IsFitting (complement u) l f) where
  abbrev σ : Substitution
  σ = by_pairs f.terms

  abbrev k : TreeLiteral
  k = turned f.crossed l

  -- a variable that the sides don't need stands for itself, or for the first one
  unneeded :
      (v : ℕ) → instance (changed σ v) u.left ≡ instance σ u.left → instance (changed σ v) u.right ≡ instance σ u.right
      → (σ v ≡ variable 0) ⊎ (σ v ≡ variable v)
  unneeded v left right =
      ⊎_elim (λ e. inl (e ∙ changed_there σ v)) (λ e. inr e)
      (pairs-say f.terms (changed σ v) v
      (fits.exact (changed σ v) (record { left = left ∙ fits.turns.left; right = right ∙ fits.turns.right })))

  turned-size : (crossed : Bool) → literal_size (turned crossed l) ≡ literal_size l
  turned-size true = omega arith
  turned-size false = refl

  k-size : tree_size k.left + tree_size k.right ≡ literal_size l
  k-size = turned-size f.crossed

  small-at : (v : ℕ) → literal_size l ≤ MOST_SYMBOLS → tree_size (σ v) ≤ MOST_SYMBOLS
  small-at v few =
      let left : tree_size (instance σ u.left) ≡ tree_size k.left = ap tree_size fits.turns.left in
      let right : tree_size (instance σ u.right) ≡ tree_size k.right = ap tree_size fits.turns.right in
      ⊎_elim
      (λ less. omega (arith, less, left, k-size, few))
      (λ left_same.
      ⊎_elim
      (λ less. omega (arith, less, right, k-size, few))
      (λ right_same.
      ⊎_elim (λ e. let one : tree_size (σ v) ≡ 1 = ap tree_size e in omega (arith, one))
      (λ e. let one : tree_size (σ v) ≡ 1 = ap tree_size e in omega (arith, one)) (unneeded v left_same right_same))
      (smaller_or_same σ v u.right))
      (smaller_or_same σ v u.left)

  turned-passes : (test : SymbolTest) (crossed : Bool) → literal_symbols_pass test l ≡ true → (symbols_pass test (turned crossed l).left ≡ true) × (symbols_pass test (turned crossed l).right ≡ true)
  turned-passes test true h = let both = and_parts (symbols_pass test l.left) (symbols_pass test l.right) h in (both.1, both.0)
  turned-passes test false h = and_parts (symbols_pass test l.left) (symbols_pass test l.right) h

  pub unit-symbols :
      (test : SymbolTest) → literal_symbols_pass test l ≡ true
      → (v : ℕ) → v < length (unit_terms uc f.terms) → symbols_pass test (substitution (unit_terms uc f.terms) v) ≡ true
  unit-symbols test pass v less =
      let both = turned-passes test f.crossed pass in
      ap (symbols_pass test) (unit-at uc u is_unit l f fits v (omega (arith, less, unit-many uc u is_unit l f fits)))
      ∙ ⊎_elim
      (λ passes. passes)
      (λ left_same.
      ⊎_elim
      (λ passes. passes)
      (λ right_same. ⊎_elim (λ e. ap (symbols_pass test) e) (λ e. ap (symbols_pass test) e) (unneeded v left_same right_same))
      (passes_or_same test σ v u.right (ap (symbols_pass test) fits.turns.right ∙ both.1)))
      (passes_or_same test σ v u.left (ap (symbols_pass test) fits.turns.left ∙ both.0))

  pub unit-are :
      (p : ℕ → Bool) → is_literal p u ≡ true → is_literal p l ≡ true → literal_size l ≤ MOST_SYMBOLS → AreTerms p uc (unit_terms uc f.terms)
  unit-are p hu hl few =
      let functions : PutsFunctionTerms p (substitution (unit_terms uc f.terms)) =
      (matchers_put_function_terms p f.terms (bound_of (clause_variables uc)) (fits.function_terms p hu hl)).1 in
      record {
        many = unit-many uc u is_unit l f fits;
        below = unit-below uc u is_unit l f fits;
        no_truth = puts_no_truth p (substitution (unit_terms uc f.terms)) functions;
        bounded = bounded;
        functions = functions;
        small = λ v less.
            let same : tree_size (substitution (unit_terms uc f.terms) v) ≡ tree_size (σ v) =
            ap tree_size (unit-at uc u is_unit l f fits v (omega (arith, less, unit-many uc u is_unit l f fits))) in
            omega (arith, same, small-at v few);
      }
    where
      made : TreeLiteral
      made = literal_instance (substitution (unit_terms uc f.terms)) u

      bounded : clause_size (clause_instance (substitution (unit_terms uc f.terms)) uc) ≤ MOST_BOUND_SYMBOLS
      bounded =
          let one : clause_size (clause_instance (substitution (unit_terms uc f.terms)) uc) ≡ sum_by literal_size (made ∷ []) =
          ap (λ (ls : List TreeLiteral). sum_by literal_size (map (literal_instance (substitution (unit_terms uc f.terms))) ls)) is_unit in
          let sum : sum_by literal_size (made ∷ []) ≡ literal_size made + 0 = sum_by-cons literal_size made [] in
          let left : tree_size made.left ≡ tree_size k.left = ap tree_size (made-left uc u is_unit l f fits) in
          let right : tree_size made.right ≡ tree_size k.right = ap tree_size (made-right uc u is_unit l f fits) in
          omega (arith, one, sum, left, right, k-size, few)
