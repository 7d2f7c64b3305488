-- Facts about trees and lists of trees.
use Rattle.std.proofs.Common.{◌≡◌, ℕ, zero, suc, ◌+◌, ◌<◌, ◌≤◌, List, [], ◌∷◌, ◌++◌, Bool, true, false, ◌&&◌, ◌==◌, length, map, get_or, refl, ap, sym, ◌∙◌, ⊎_elim, arith, eq-eqb}
use Rattle.std.proofs.lemmas.Bool.{eqb-true, true≢false, cases_Bool}
use Rattle.fol_base.specs.Tree.{is_truth, true_symbol, Tree, variable, application, Trees, no_trees, tree_then, trees_of, list_of, tree_size, trees_size, tree_eq, trees_eq}
use Rattle.fol_base.specs.Instance.{Substitution, instance, instances}

pub list_of-trees_of : (ts : List Tree) → list_of (trees_of ts) ≡ ts
list_of-trees_of [] = refl
list_of-trees_of (t ∷ ts) = ap (λ us. t ∷ us) (list_of-trees_of ts)

pub trees_of-list_of : (ts : Trees) → trees_of (list_of ts) ≡ ts
trees_of-list_of no_trees = refl
trees_of-list_of (tree_then t ts) = ap (tree_then t) (trees_of-list_of ts)

pub and_left : (a b : Bool) → (a && b) ≡ true → a ≡ true
and_left true b h = refl
and_left false b h = h

pub and_right : (a b : Bool) → (a && b) ≡ true → b ≡ true
and_right true b h = h
and_right false b h = cc

-- a tree has at least one occurrence
pub tree_size-positive : (t : Tree) → 1 ≤ tree_size t
tree_size-positive (variable v) = omega arith
tree_size-positive (application f ts) = omega arith

-- an item is no larger than its list
pub tree_size-get : (ts : List Tree) (i : ℕ) (d : Tree) → i < length ts → tree_size (get_or ts i d) ≤ trees_size (trees_of ts)
tree_size-get [] i d h = omega arith
tree_size-get (t ∷ ts) zero d h = omega arith
tree_size-get (t ∷ ts) (suc i) d h = omega (arith, tree_size-get ts i d (omega arith))

pub trees_size-append : (ts us : List Tree) → trees_size (trees_of (ts ++ us)) ≡ trees_size (trees_of ts) + trees_size (trees_of us)
trees_size-append [] us = omega arith
trees_size-append (t ∷ ts) us = omega (arith, trees_size-append ts us)

pub trees_size-push : (ts : List Tree) (t : Tree) → trees_size (trees_of (ts ++ t ∷ [])) ≡ trees_size (trees_of ts) + tree_size t
trees_size-push ts t = omega (arith, trees_size-append ts (t ∷ []))

pub instances-trees_of : (σ : Substitution) (ts : List Tree) → instances σ (trees_of ts) ≡ trees_of (map (instance σ) ts)
instances-trees_of σ [] = refl
instances-trees_of σ (t ∷ ts) = ap (tree_then (instance σ t)) (instances-trees_of σ ts)

-- lists of different lengths differ
pub trees_eq-lengths : (ts us : List Tree) → (length ts ≡ length us → ⊥) → false ≡ trees_eq (trees_of ts) (trees_of us)
trees_eq-lengths [] [] h = absurd (h refl)
trees_eq-lengths [] (u ∷ us) h = refl
trees_eq-lengths (t ∷ ts) [] h = refl
trees_eq-lengths (t ∷ ts) (u ∷ us) h =
    and_false (tree_eq t u) ∙ ap (λ b. tree_eq t u && b) (trees_eq-lengths ts us (λ e. h (ap suc e)))
  where
    and_false : (b : Bool) → false ≡ (b && false)
    and_false true = refl
    and_false false = refl

-- a tree equals itself
mutual
  pub tree_eq-refl : (t : Tree) → tree_eq t t ≡ true
  tree_eq-refl (variable v) = eq-eqb v v refl
  tree_eq-refl (application f ts) = ap (λ b. b && trees_eq ts ts) (eq-eqb f f refl) ∙ trees_eq-refl ts

  pub trees_eq-refl : (ts : Trees) → trees_eq ts ts ≡ true
  trees_eq-refl no_trees = refl
  trees_eq-refl (tree_then t ts) = ap (λ b. b && trees_eq ts ts) (tree_eq-refl t) ∙ trees_eq-refl ts

-- and only itself
mutual
  pub tree_eq-true : (t u : Tree) → tree_eq t u ≡ true → t ≡ u
  tree_eq-true (variable v) (variable w) h = ap variable (eqb-true v w h)
  tree_eq-true (variable v) (application g us) h = cc
  tree_eq-true (application f ts) (variable w) h = cc
  tree_eq-true (application f ts) (application g us) h =
      let heads : f ≡ g = eqb-true f g (and_left (f == g) (trees_eq ts us) h) in
      let arguments : ts ≡ us = trees_eq-true ts us (and_right (f == g) (trees_eq ts us) h) in
      cc

  pub trees_eq-true : (ts us : Trees) → trees_eq ts us ≡ true → ts ≡ us
  trees_eq-true no_trees no_trees h = refl
  trees_eq-true no_trees (tree_then u us) h = cc
  trees_eq-true (tree_then t ts) no_trees h = cc
  trees_eq-true (tree_then t ts) (tree_then u us) h =
      let first : t ≡ u = tree_eq-true t u (and_left (tree_eq t u) (trees_eq ts us) h) in
      let rest : ts ≡ us = trees_eq-true ts us (and_right (tree_eq t u) (trees_eq ts us) h) in
      cc

-- in either order
pub tree_eq-sym : (t u : Tree) → tree_eq t u ≡ tree_eq u t
tree_eq-sym t u =
    ⊎_elim
    (λ e. e ∙ sym (ap (λ w. tree_eq u w) (tree_eq-true t u e) ∙ tree_eq-refl u))
    (λ e. ⊎_elim
    (λ back. absurd (true≢false (sym (tree_eq-refl t) ∙ ap (tree_eq t) (sym (tree_eq-true u t back)) ∙ e)))
    (λ back. e ∙ sym back)
    (cases_Bool (tree_eq u t)))
    (cases_Bool (tree_eq t u))

-- the reserved symbol with arguments is `$true` exactly where the list of them is empty
pub is_truth-arguments :
    (b : Bool) (ts : List Tree) → (b ≡ true → ts ≡ []) × (ts ≡ [] → b ≡ true) → b ≡ is_truth (application true_symbol (trees_of ts))
is_truth-arguments b [] h = h.1 refl
is_truth-arguments b (t ∷ ts) h = ⊎_elim (λ e. let no : t ∷ ts ≡ [] = h.0 e in absurd (cc)) (λ e. e) (cases_Bool b)
