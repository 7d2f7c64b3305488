-- Features of instances, and of what a clause subsumes.
use mathlib.Core.Bool.{beq}
use Rattle.std.proofs.Common.{◌≡◌, ℕ, zero, suc, ◌+◌, ◌≤◌, Bool, true, false, refl, ap, ap₂, ⊎_elim, arith}
use Rattle.std.specs.Prelude.{if◌then◌else◌}
use Rattle.fol_base.specs.Tree.{Tree, variable, application, Trees, no_trees, tree_then, tree_size, trees_size}
use Rattle.fol_base.specs.Instance.{Substitution, instance, instances}
use Rattle.fol_base.specs.Clause.{TreeLiteral, literal_instance, literal_size}
use Rattle.fol_base.proofs.AboutOrders.OrderLemmas.{SameLiteral, SameSides, equivalent_literals-decided}
use Rattle.subsume.specs.Features.{by_sign, measured, tree_weight, trees_weight, for_literal, for_symbol, for_variable, tree_measure, literal_measure, NoFeatureGreater, NoMeasureGreater}
use Rattle.subsume.proofs.AboutTree.PlaceSums.{IsMonotone, sum-subsumed}

-- ---- weights of instances

-- each tree weighs at least as much as a variable
weight-least : (weight : ℕ → ℕ) (each : ℕ) → ((f : ℕ) → each ≤ weight f) → (t : Tree) → each ≤ tree_weight weight each t
weight-least weight each least (variable v) = omega arith
weight-least weight each least (application f ts) = omega (arith, least f)

mutual
  weight-grows :
      (weight : ℕ → ℕ) (each : ℕ) → ((t : Tree) → each ≤ tree_weight weight each t) → (σ : Substitution) (t : Tree)
      → tree_weight weight each t ≤ tree_weight weight each (instance σ t)
  weight-grows weight each least σ (variable v) = least (σ v)
  weight-grows weight each least σ (application f ts) = omega (arith, weights-grow weight each least σ ts)

  weights-grow :
      (weight : ℕ → ℕ) (each : ℕ) → ((t : Tree) → each ≤ tree_weight weight each t) → (σ : Substitution) (ts : Trees)
      → trees_weight weight each ts ≤ trees_weight weight each (instances σ ts)
  weights-grow weight each least σ no_trees = omega arith
  weights-grow weight each least σ (tree_then t ts) = omega (arith, weight-grows weight each least σ t, weights-grow weight each least σ ts)

-- a variable's measure is 1 only where each symbol's is
variable-least : (k f : ℕ) → for_variable k ≤ for_symbol k f
variable-least zero f = omega arith
variable-least (suc zero) f = omega arith
variable-least (suc (suc k)) f = omega arith

measure-grows : (k : ℕ) (σ : Substitution) (t : Tree) → tree_measure k t ≤ tree_measure k (instance σ t)
measure-grows k σ t =
    weight-grows (for_symbol k) (for_variable k) (weight-least (for_symbol k) (for_variable k) (variable-least k)) σ t

-- ---- sizes

mutual
  size-is : (t : Tree) → tree_measure 1 t ≡ tree_size t
  size-is (variable v) = refl
  size-is (application f ts) = omega (arith, sizes-are ts)

  sizes-are : (ts : Trees) → trees_weight (for_symbol 1) (for_variable 1) ts ≡ trees_size ts
  sizes-are no_trees = refl
  sizes-are (tree_then t ts) = omega (arith, size-is t, sizes-are ts)

size-grows : (σ : Substitution) (t : Tree) → tree_size t ≤ tree_size (instance σ t)
size-grows σ t = omega (arith, size-is t, size-is (instance σ t), measure-grows 1 σ t)

-- ---- of literals

-- the same for a literal whose sides are exchanged
agrees-by :
    (side : Tree → ℕ) (l m : TreeLiteral) → SameSides l m → side l.left + side l.right ≡ side m.left + side m.right
agrees-by side l m same =
    ⊎_elim
    (λ h. omega (arith, ap side h.0, ap side h.1))
    (λ h. omega (arith, ap side h.0, ap side h.1))
    same

by_sign-monotone :
    (positive : Bool) (measure : TreeLiteral → ℕ)
    → ((σ : Substitution) (l : TreeLiteral) → measure l ≤ measure (literal_instance σ l))
    → ((l m : TreeLiteral) → SameSides l m → measure l ≡ measure m)
    → IsMonotone (by_sign positive measure)
by_sign-monotone positive measure grows agrees = record {
  grows = λ σ l. under (beq l.positive positive) (measure l) (measure (literal_instance σ l)) (grows σ l);
  agrees = λ l m h.
      let same : SameLiteral l m = (equivalent_literals-decided l m).0 h in
      ap₂ (λ (b : Bool) (n : ℕ). if b then n else 0) (ap (λ b. beq b positive) same.0) (agrees l m same.1);
}
  where
    under : (b : Bool) (m n : ℕ) → m ≤ n → (if b then m else 0) ≤ (if b then n else 0)
    under true m n h = h
    under false m n h = omega arith

pub no_measure_greater : NoMeasureGreater
no_measure_greater is_predicate c d positive k s =
    sum-subsumed (by_sign positive (literal_measure k))
    (by_sign-monotone positive (literal_measure k)
    (λ σ l. omega (arith, measure-grows k σ l.left, measure-grows k σ l.right))
    (λ l m h. ap (λ n. for_literal k + n) (agrees-by (tree_measure k) l m h)))
    s.matcher c.literals s.places d.literals s.different s.mapped

pub no_feature_greater : NoFeatureGreater
no_feature_greater is_predicate c d s = (count true, (count false, (size true, (size false, tt))))
  where
    count : (positive : Bool) → measured positive (λ l. 1) c.literals ≤ measured positive (λ l. 1) d.literals
    count positive =
        sum-subsumed (by_sign positive (λ l. 1)) (by_sign-monotone positive (λ l. 1) (λ σ l. omega arith) (λ l m h. refl))
        s.matcher c.literals s.places d.literals s.different s.mapped

    size : (positive : Bool) → measured positive literal_size c.literals ≤ measured positive literal_size d.literals
    size positive =
        sum-subsumed (by_sign positive literal_size) (by_sign-monotone positive literal_size
        (λ σ l. omega (arith, size-grows σ l.left, size-grows σ l.right)) (agrees-by tree_size))
        s.matcher c.literals s.places d.literals s.different s.mapped
