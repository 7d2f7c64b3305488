-- What a substitution by terms of a bounded size makes of a clause: at most so many symbols and variables for each.
use Rattle.std.proofs.Common.{ℕ, ◌*◌, ◌<◌, ◌≤◌, List, [], ◌∷◌, ap, arith}
use Rattle.std.specs.Prelude.{sum_by}
use Rattle.std.specs.List.{AllByRecursion}
use Rattle.std.proofs.Math.Nat.{mul-add}
use Rattle.std.proofs.lemmas.List.Sums.{sum_by-cons}
use Rattle.fol_base.specs.Tree.{Tree, variable, application, Trees, no_trees, tree_then, tree_size, trees_size, VariablesBelow, AllVariablesBelow}
use Rattle.fol_base.specs.Instance.{Substitution, instance, instances}
use Rattle.fol_base.specs.Clause.{TreeLiteral, LiteralVariablesBelow, literal_size, literal_instance}
use Rattle.fol_base.specs.Ground.{literals_instance}

module _ (n most : ℕ) (σ : Substitution) (some : 1 ≤ most) (small : (v : ℕ) → v < n → tree_size (σ v) ≤ most) where
  mutual
    tree_grows : (t : Tree) → VariablesBelow n t → tree_size (instance σ t) ≤ most * tree_size t
    tree_grows (variable v) below = omega (arith, small v below)
    tree_grows (application f ts) below = omega (arith, trees_grow ts below, mul-add most 1 (trees_size ts), some)

    trees_grow : (ts : Trees) → AllVariablesBelow n ts → trees_size (instances σ ts) ≤ most * trees_size ts
    trees_grow no_trees below = omega arith
    trees_grow (tree_then t ts) below =
        omega (arith, tree_grows t below.0, trees_grow ts below.1, mul-add most (tree_size t) (trees_size ts))

  pub literals_grow :
      (ls : List TreeLiteral) → AllByRecursion (LiteralVariablesBelow n) ls
      → sum_by literal_size (literals_instance σ ls) ≤ most * sum_by literal_size ls
  literals_grow [] all = omega arith
  literals_grow (l ∷ ls) all =
      omega (
        arith,
        tree_grows l.left all.0.0,
        tree_grows l.right all.0.1,
        literals_grow ls all.1,
        mul-add most (tree_size l.left) (tree_size l.right),
        mul-add most (literal_size l) (sum_by literal_size ls),
        ap (λ k. most * k) (sum_by-cons literal_size l ls),
        sum_by-cons literal_size (literal_instance σ l) (literals_instance σ ls),
      )
