-- The order on trees is irreflexive and transitive, and total on ground trees.
use Rattle.std.proofs.Common.{◌≡◌, ℕ, ◌<◌, ◌≤◌, true, false, ◌==◌, ◌⊎◌, [], ◌++◌, refl, ap, ap₂, sym, ◌∙◌, subst, inl, inr, ⊎_elim, arith}
use Rattle.std.proofs.lemmas.Bool.{and_parts, cases_order, false_from_ne_true, true≢false}
use Rattle.fol_base.specs.Tree.{Tree, variable, application, Trees, no_trees, tree_then, tree_size, trees_size, tree_variables, trees_variables}
use Rattle.fol_base.specs.Ground.{is_ground, are_ground}
use Rattle.fol_base.specs.Multiset.{times}
use Rattle.fol_base.specs.Order.{occurrences, tree_greater, HasVariablesOf, ExceedsBySize, TreeGreater, TreesGreater, TreesTotallyOrdered}
use Rattle.fol_base.proofs.AboutTerms.TreeLemmas.{tree_size-positive, tree_eq-true}
use Rattle.fol_base.proofs.AboutOrders.OrderLemmas.{tree_equality_decided, trees_equivalence, tree_greater_decided}

-- ---- irreflexive

mutual
  TreeGreater-itself : (t : Tree) → TreeGreater t t → ⊥
  TreeGreater-itself (variable v) h = ⊎_elim (λ e. absurd (omega arith)) (λ e. e.1) h.1
  TreeGreater-itself (application f ts) h =
      ⊎_elim
      (λ e. absurd (omega arith))
      (λ e. ⊎_elim (λ k. absurd (omega arith)) (λ k. TreesGreater-itself ts k.1) e.1)
      h.1

  TreesGreater-itself : (ts : Trees) → TreesGreater ts ts → ⊥
  TreesGreater-itself no_trees h = h
  TreesGreater-itself (tree_then t ts) h = ⊎_elim (λ e. TreeGreater-itself t e) (λ e. TreesGreater-itself ts e.1) h

-- ---- transitive

ExceedsBySize-trans :
    (s t u : Tree) (First Second Both : Type 0) → (First → Second → Both)
    → ExceedsBySize s t First → ExceedsBySize t u Second → ExceedsBySize s u Both
ExceedsBySize-trans s t u First Second Both both h k = (
  λ v. let a : occurrences v t ≤ occurrences v s = h.0 v in let b : occurrences v u ≤ occurrences v t = k.0 v in omega arith,
  ⊎_elim
      (λ a. ⊎_elim (λ b. inl (omega arith)) (λ b. let e : tree_size t ≡ tree_size u = b.0 in inl (omega arith)) k.1)
      (λ a.
      let e : tree_size s ≡ tree_size t = a.0 in
      ⊎_elim (λ b. inl (omega arith)) (λ b. let d : tree_size t ≡ tree_size u = b.0 in inr (omega arith, both a.1 b.1)) k.1)
      h.1,
)

tie-trans :
    (f g h : ℕ) (First Second Both : Type 0) → (First → Second → Both)
    → (g < f) ⊎ ((f ≡ g) × First) → (h < g) ⊎ ((g ≡ h) × Second) → (h < f) ⊎ ((f ≡ h) × Both)
tie-trans f g h First Second Both both x y =
    ⊎_elim
    (λ a. ⊎_elim (λ b. inl (omega arith)) (λ b. let e : g ≡ h = b.0 in inl (omega arith)) y)
    (λ a. let e : f ≡ g = a.0 in ⊎_elim (λ b. inl (omega arith)) (λ b. inr (a.0 ∙ b.0, both a.1 b.1)) y)
    x

mutual
  TreeGreater-trans : (s t u : Tree) → TreeGreater s t → TreeGreater t u → TreeGreater s u
  TreeGreater-trans (variable v) (variable w) u h k = ExceedsBySize-trans (variable v) (variable w) u ⊥ ⊥ ⊥ (λ e _. e) h k
  TreeGreater-trans (variable v) (application g us) (variable w) h k =
      ExceedsBySize-trans (variable v) (application g us) (variable w) ⊥ ⊥ ⊥ (λ e _. e) h k
  TreeGreater-trans (variable v) (application g us) (application i ws) h k =
      ExceedsBySize-trans (variable v) (application g us) (application i ws) ⊥ ((i < g) ⊎ ((g ≡ i) × TreesGreater us ws)) ⊥ (λ e _. e) h k
  TreeGreater-trans (application f ts) (variable v) (variable w) h k =
      ExceedsBySize-trans (application f ts) (variable v) (variable w) ⊥ ⊥ ⊥ (λ e _. e) h k
  TreeGreater-trans (application f ts) (variable v) (application i ws) h k =
      ExceedsBySize-trans (application f ts) (variable v) (application i ws) ⊥ ⊥ ((i < f) ⊎ ((f ≡ i) × TreesGreater ts ws)) (λ e _. absurd e) h k
  TreeGreater-trans (application f ts) (application g us) (variable w) h k =
      ExceedsBySize-trans (application f ts) (application g us) (variable w) ((g < f) ⊎ ((f ≡ g) × TreesGreater ts us)) ⊥ ⊥ (λ _ e. e) h k
  TreeGreater-trans (application f ts) (application g us) (application i ws) h k =
      ExceedsBySize-trans (application f ts) (application g us) (application i ws)
      ((g < f) ⊎ ((f ≡ g) × TreesGreater ts us)) ((i < g) ⊎ ((g ≡ i) × TreesGreater us ws)) ((i < f) ⊎ ((f ≡ i) × TreesGreater ts ws))
      (tie-trans f g i (TreesGreater ts us) (TreesGreater us ws) (TreesGreater ts ws) (TreesGreater-trans ts us ws)) h k

  TreesGreater-trans : (ts us ws : Trees) → TreesGreater ts us → TreesGreater us ws → TreesGreater ts ws
  TreesGreater-trans no_trees us ws h k = absurd h
  TreesGreater-trans (tree_then t ts) no_trees ws h k = absurd h
  TreesGreater-trans (tree_then t ts) (tree_then u us) no_trees h k = absurd k
  TreesGreater-trans (tree_then t ts) (tree_then u us) (tree_then w ws) h k =
      ⊎_elim
      (λ a.
      ⊎_elim
      (λ b. inl (TreeGreater-trans t u w a b))
      (λ b. inl (subst (λ (x : Tree). TreeGreater t x) b.0 a))
      k)
      (λ a.
      ⊎_elim
      (λ b. inl (subst (λ (x : Tree). TreeGreater x w) (sym a.0) b))
      (λ b. inr (a.0 ∙ b.0, TreesGreater-trans ts us ws a.1 b.1))
      k)
      h

-- ---- total on ground trees

mutual
  ground-variables : (t : Tree) → is_ground t ≡ true → tree_variables t ≡ []
  ground-variables (variable v) h = absurd (true≢false (sym h))
  ground-variables (application f ts) h = grounds-variables ts h

  grounds-variables : (ts : Trees) → are_ground ts ≡ true → trees_variables ts ≡ []
  grounds-variables no_trees h = refl
  grounds-variables (tree_then t ts) h =
      let parts = and_parts (is_ground t) (are_ground ts) h in
      ap₂ ◌++◌ (ground-variables t parts.0) (grounds-variables ts parts.1)

ground-HasVariablesOf : (s t : Tree) → is_ground t ≡ true → HasVariablesOf s t
ground-HasVariablesOf s t h v = let e : occurrences v t ≡ 0 = ap (times ◌==◌ v) (ground-variables t h) in omega arith

mutual
  TreeGreater-total : (s t : Tree) → is_ground s ≡ true → is_ground t ≡ true → (s ≡ t) ⊎ (TreeGreater s t ⊎ TreeGreater t s)
  TreeGreater-total (variable v) t hs ht = absurd (true≢false (sym hs))
  TreeGreater-total (application f ts) (variable w) hs ht = absurd (true≢false (sym ht))
  TreeGreater-total (application f ts) (application g us) hs ht =
      let s : Tree = application f ts in
      let t : Tree = application g us in
      let over : HasVariablesOf s t = ground-HasVariablesOf s t ht in
      let under : HasVariablesOf t s = ground-HasVariablesOf t s hs in
      ⊎_elim
      (λ level.
      ⊎_elim
      (λ same.
      ⊎_elim
      (λ e. inl (ap₂ application same e))
      (λ e.
      ⊎_elim
      (λ k. inr (inl (over, inr (level, inr (same, k)))))
      (λ k. inr (inr (under, inr (sym level, inr (sym same, k)))))
      e)
      (TreesGreater-total ts us hs ht (omega arith)))
      (λ heads.
      ⊎_elim
      (λ lower. inr (inr (under, inr (sym level, inl lower))))
      (λ higher. inr (inl (over, inr (level, inl higher))))
      heads)
      (cases_order f g))
      (λ sizes.
      ⊎_elim
      (λ smaller. inr (inr (under, inl smaller)))
      (λ larger. inr (inl (over, inl larger)))
      sizes)
      (cases_order (tree_size s) (tree_size t))

  TreesGreater-total :
      (ts us : Trees) → are_ground ts ≡ true → are_ground us ≡ true → trees_size ts ≡ trees_size us
      → (ts ≡ us) ⊎ (TreesGreater ts us ⊎ TreesGreater us ts)
  TreesGreater-total no_trees no_trees hs ht e = inl refl
  TreesGreater-total no_trees (tree_then u us) hs ht e = absurd (omega (arith, tree_size-positive u))
  TreesGreater-total (tree_then t ts) no_trees hs ht e = absurd (omega (arith, tree_size-positive t))
  TreesGreater-total (tree_then t ts) (tree_then u us) hs ht e =
      let ps = and_parts (is_ground t) (are_ground ts) hs in
      let pt = and_parts (is_ground u) (are_ground us) ht in
      ⊎_elim
      (λ same.
      let size : tree_size t ≡ tree_size u = ap tree_size same in
      ⊎_elim
      (λ k. inl (ap₂ tree_then same k))
      (λ k.
      ⊎_elim
      (λ d. inr (inl (inr (same, d))))
      (λ d. inr (inr (inr (sym same, d))))
      k)
      (TreesGreater-total ts us ps.1 pt.1 (omega arith)))
      (λ k.
      ⊎_elim
      (λ d. inr (inl (inl d)))
      (λ d. inr (inr (inl d)))
      k)
      (TreeGreater-total t u ps.0 pt.0)

pub tree_greater-itself : (t : Tree) → tree_greater t t ≡ false
tree_greater-itself t = false_from_ne_true (tree_greater t t) (λ h. TreeGreater-itself t ((tree_greater_decided t t).0 h))

pub tree_greater-trans : (s t u : Tree) → tree_greater s t ≡ true → tree_greater t u ≡ true → tree_greater s u ≡ true
tree_greater-trans s t u h k =
    (tree_greater_decided s u).1 (TreeGreater-trans s t u ((tree_greater_decided s t).0 h) ((tree_greater_decided t u).0 k))

pub trees_totally_ordered : TreesTotallyOrdered
trees_totally_ordered = record {
  is_equivalence = trees_equivalence;
  same_left = λ x y z _ _ _ e h. ap (λ t. tree_greater t z) (sym (tree_eq-true x y e)) ∙ h;
  same_right = λ x y z _ _ _ e h. ap (tree_greater z) (sym (tree_eq-true x y e)) ∙ h;
  is_irreflexive = tree_greater-itself;
  is_transitive = λ x y z _ _ _ h k. tree_greater-trans x y z h k;
  is_total = λ x y hx hy.
      ⊎_elim
      (λ e. inl ((tree_equality_decided x y).1 e))
      (λ e.
      ⊎_elim
      (λ k. inr (inl ((tree_greater_decided x y).1 k)))
      (λ k. inr (inr ((tree_greater_decided y x).1 k)))
      e)
      (TreeGreater-total x y hx hy);
}
