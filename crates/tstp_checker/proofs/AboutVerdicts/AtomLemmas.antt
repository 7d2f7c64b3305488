-- Ground literals by the bound of their variables, and names that are one alone.
use Rattle.std.proofs.Common.{◌≡◌, ℕ, zero, suc, ◌≤◌, max, false, ◌&&◌, ◌==◌, List, [], ◌∷◌, ◌++◌, length, refl, ap, ap₂, sym, ◌∙◌, arith}
use Rattle.std.proofs.lemmas.Bool.{eq-eqb}
use Rattle.plain_types.specs.declared.sequence.NameLit.{NameLit}
use Rattle.plain_types.specs.Names.{same_name}
use Rattle.fol_base.specs.Tree.{Tree, variable, application, Trees, no_trees, tree_then, tree_variables, trees_variables}
use Rattle.fol_base.specs.Clause.{TreeLiteral, names_eq, literal_variables}
use Rattle.fol_base.specs.Canonical.{bound_of}
use Rattle.fol_base.specs.Ground.{is_ground, are_ground, is_ground_literal}
use Rattle.fol_base.proofs.AboutTerms.VariableLemmas.{bound_of-append}
use Rattle.list_lemmas.proofs.Numbers.{not-zero}
use Rattle.list_lemmas.proofs.Bools.{false-and}

-- ---- a literal is ground where no number bounds its variables but 0

max-zero : (a b : ℕ) → (max a b == 0) ≡ ((a == 0) && (b == 0))
max-zero zero b = ap (λ n. n == 0) (let e : max zero b ≡ b = omega arith in e) ∙ sym (ap (λ x. x && (b == 0)) (eq-eqb 0 0 refl))
max-zero (suc a) b = not-zero (max (suc a) b) (omega arith) ∙ sym (ap (λ x. x && (b == 0)) (not-zero (suc a) (omega arith)))

both-zero : (vs ws : List ℕ) → (bound_of (vs ++ ws) == 0) ≡ ((bound_of vs == 0) && (bound_of ws == 0))
both-zero vs ws = ap (λ n. n == 0) (bound_of-append vs ws) ∙ max-zero (bound_of vs) (bound_of ws)

mutual
  tree-ground : (t : Tree) → (bound_of (tree_variables t) == 0) ≡ is_ground t
  tree-ground (variable v) = not-zero (bound_of (v ∷ [])) (omega arith)
  tree-ground (application f ts) = trees-ground ts

  trees-ground : (ts : Trees) → (bound_of (trees_variables ts) == 0) ≡ are_ground ts
  trees-ground no_trees = eq-eqb 0 0 refl
  trees-ground (tree_then t ts) = both-zero (tree_variables t) (trees_variables ts) ∙ ap₂ ◌&&◌ (tree-ground t) (trees-ground ts)

pub literal-ground : (l : TreeLiteral) → (bound_of (literal_variables l) == 0) ≡ is_ground_literal l
literal-ground l =
    both-zero (tree_variables l.left) (tree_variables l.right) ∙ ap₂ ◌&&◌ (tree-ground l.left) (tree-ground l.right)

-- ---- lists against one alone

pub names-many : (ns : List NameLit) (n : NameLit) → 2 ≤ length ns → false ≡ names_eq ns (n ∷ [])
names-many [] n h = absurd (let none : ⊥ = omega (arith, h) in none)
names-many (a ∷ []) n h = absurd (let none : ⊥ = omega (arith, h) in none)
names-many (a ∷ b ∷ ns) n h = false-and (same_name a n)
