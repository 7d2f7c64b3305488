-- What is ground has no instance but itself.
use Rattle.std.proofs.Common.{◌≡◌, true, List, [], ◌∷◌, refl, ap, ap₂, sym}
use Rattle.std.proofs.lemmas.Bool.{and_parts, and_from, true≢false}
use Rattle.fol_base.specs.Tree.{Tree, variable, application, Trees, no_trees, tree_then}
use Rattle.fol_base.specs.Instance.{Substitution, instance, instances}
use Rattle.fol_base.specs.Clause.{TreeLiteral}
use Rattle.fol_base.specs.Ground.{is_ground, are_ground, is_ground_literal, is_ground_clause, literals_instance}

mutual
  instance-ground : (σ : Substitution) (t : Tree) → is_ground t ≡ true → instance σ t ≡ t
  instance-ground σ (variable v) h = absurd (true≢false (sym h))
  instance-ground σ (application f ts) h = ap (application f) (instances-ground σ ts h)

  instances-ground : (σ : Substitution) (ts : Trees) → are_ground ts ≡ true → instances σ ts ≡ ts
  instances-ground σ no_trees h = refl
  instances-ground σ (tree_then t ts) h =
      let parts = and_parts (is_ground t) (are_ground ts) h in
      ap₂ tree_then (instance-ground σ t parts.0) (instances-ground σ ts parts.1)

pub literals_instance-ground : (σ : Substitution) (ls : List TreeLiteral) → is_ground_clause ls ≡ true → literals_instance σ ls ≡ ls
literals_instance-ground σ [] h = refl
literals_instance-ground σ (l ∷ ls) h =
    let parts = and_parts (is_ground_literal l) (is_ground_clause ls) h in
    let sides = and_parts (is_ground l.left) (is_ground l.right) parts.0 in
    let made : Tree → Tree → TreeLiteral = λ (t u : Tree). record { positive = l.positive; left = t; right = u } in
    ap₂ ◌∷◌ (ap₂ made (instance-ground σ l.left sides.0) (instance-ground σ l.right sides.1)) (literals_instance-ground σ ls parts.1)

pub one_literal-ground : (σ : Substitution) (l : TreeLiteral) → is_ground_literal l ≡ true → literals_instance σ (l ∷ []) ≡ l ∷ []
one_literal-ground σ l ground = literals_instance-ground σ (l ∷ []) (and_from (is_ground_literal l) true ground refl)
