-- The list of ground trees has each of them.
use Rattle.std.proofs.Common.{◌≡◌, ℕ, zero, suc, ◌<◌, ◌≤◌, Bool, true, List, [], ◌∷◌, map, refl, ap, sym, subst, inl, inr, ◌⊎◌, ⊎_elim, arith}
use Rattle.std.specs.Prelude.{flat_map, nat_lt}
use Rattle.std.proofs.lemmas.Bool.{and_parts, true≢false}
use Rattle.fol_base.specs.Tree.{Tree, variable, application, Trees, no_trees, tree_then, tree_size, trees_size, trees_count}
use Rattle.fol_base.specs.Ground.{is_ground, are_ground}
use Rattle.kernel_steps.specs.Symbols.{symbols_pass, all_symbols_pass}
use Rattle.fol_base.proofs.AboutTerms.TreeLemmas.{tree_size-positive}
use Rattle.kbo_order.proofs.AboutMultisets.MemberLemmas.{In, In-left, In-right, In-map}
use Rattle.demodulate.specs.Rank.{lists_of, applied, ground_trees}
use Rattle.list_lemmas.proofs.Numbers.{less-says}

in-flat : {X Y : Type 0} (f : X → List Y) (x : X) (y : Y) (xs : List X) → In x xs → In y (f x) → In y (flat_map f xs)
in-flat f x y [] h k = h
in-flat f x y (z ∷ zs) h k =
    ⊎_elim
    (λ e. In-left y (f z) (flat_map f zs) (subst (λ w. In y (f w)) e k))
    (λ later. In-right y (f z) (flat_map f zs) (in-flat f x y zs later k))
    h

in-applied : (bound f : ℕ) (ts : Trees) (tss : List Trees) → f < bound → In ts tss → In (application f ts) (applied bound tss)
in-applied zero f ts tss less there = absurd (omega arith)
in-applied (suc bound) f ts tss less there =
    ⊎_elim
    (λ (low : f < bound). In-right (application f ts) (map (application bound) tss) (applied bound tss) (in-applied bound f ts tss low there))
    (λ (same : f ≡ bound).
    In-left (application f ts) (map (application bound) tss) (applied bound tss)
    (subst (λ g. In (application g ts) (map (application bound) tss)) (sym same) (In-map (application bound) ts tss there)))
    (last-or f bound less)
  where
    last-or : (i n : ℕ) → i < suc n → (i < n) ⊎ (i ≡ n)
    last-or zero zero h = inr refl
    last-or zero (suc n) h = inl (omega arith)
    last-or (suc i) zero h = absurd (omega arith)
    last-or (suc i) (suc n) h = ⊎_elim (λ (k : i < n). inl (omega arith)) (λ e. inr (ap suc e)) (last-or i n (omega arith))

abbrev Below : ℕ → ℕ → ℕ → Bool
Below bound f arity = nat_lt f bound

-- ground trees of at most n symbols, and lists of them of at most n symbols together
mutual
  pub tree-listed :
      (bound n : ℕ) (t : Tree) → is_ground t ≡ true → symbols_pass (Below bound) t ≡ true → tree_size t ≤ n → In t (ground_trees bound n)
  tree-listed bound n (variable v) ground passes small = absurd (true≢false (sym ground))
  tree-listed bound zero (application f ts) ground passes small = absurd (omega arith)
  tree-listed bound (suc n) (application f ts) ground passes small =
      let both = and_parts (nat_lt f bound) (all_symbols_pass (Below bound) ts) passes in
      in-applied bound f ts (lists_of n (ground_trees bound n)) (less-says f bound both.0)
      (trees-listed bound n n ts ground both.1 (omega arith) (omega (arith, count-small ts)))

  trees-listed :
      (bound n k : ℕ) (ts : Trees) → are_ground ts ≡ true → all_symbols_pass (Below bound) ts ≡ true → trees_size ts ≤ n → trees_count ts ≤ k
      → In ts (lists_of k (ground_trees bound n))
  trees-listed bound n zero no_trees ground passes small few = inl refl
  trees-listed bound n (suc k) no_trees ground passes small few = inl refl
  trees-listed bound n zero (tree_then t ts) ground passes small few = absurd (omega arith)
  trees-listed bound n (suc k) (tree_then t ts) ground passes small few =
      let both = and_parts (is_ground t) (are_ground ts) ground in
      let all = and_parts (symbols_pass (Below bound) t) (all_symbols_pass (Below bound) ts) passes in
      inr
      (in-flat (λ u. map (tree_then u) (lists_of k (ground_trees bound n))) t (tree_then t ts) (ground_trees bound n)
      (tree-listed bound n t both.0 all.0 (omega arith))
      (In-map (tree_then t) ts (lists_of k (ground_trees bound n))
      (trees-listed bound n k ts both.1 all.1 (omega arith) (omega arith))))

  count-small : (ts : Trees) → trees_count ts ≤ trees_size ts
  count-small no_trees = omega arith
  count-small (tree_then t ts) = omega (arith, tree_size-positive t, count-small ts)
