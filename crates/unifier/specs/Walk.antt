-- The walk down a pattern and its target side by side, which finds the pairs.
use Rattle.std.specs.Prelude.{ℕ, ◌==◌, List, [], ◌∷◌, ◌++◌, Option, None, Some, option_and_then, if◌then◌else◌}
use Rattle.fol_base.specs.Tree.{Tree, variable, application, Trees, no_trees, tree_then, tree_eq}
use Rattle.fol_base.specs.Term.{tree_of}
use Rattle.unifier.specs.Matching.{term_for}
use Rattle.unifier.specs.declared.matched.Pair.{Pair}

-- a pair's variable and tree
abbrev pub pair_of : Pair → ℕ × Tree
pair_of p = (p.variable, tree_of p.term.now)

-- a variable that has a term must have this one; one that has none gets it
abbrev pub met : Option Tree → List (ℕ × Tree) → ℕ → Tree → Option (List (ℕ × Tree))
met None pairs v u = Some (pairs ++ (v, u) ∷ [])
met (Some t) pairs v u = if tree_eq t u then Some pairs else None

abbrev mutual
  pub walk : List (ℕ × Tree) → Tree → Tree → Option (List (ℕ × Tree))
  walk pairs (variable v) u = met (term_for v pairs) pairs v u
  walk pairs (application f ts) (variable w) = None
  walk pairs (application f ts) (application g us) = if f == g then walk_all pairs ts us else None

  pub walk_all : List (ℕ × Tree) → Trees → Trees → Option (List (ℕ × Tree))
  walk_all pairs no_trees no_trees = Some pairs
  walk_all pairs no_trees (tree_then u us) = None
  walk_all pairs (tree_then t ts) no_trees = None
  walk_all pairs (tree_then t ts) (tree_then u us) =
      option_and_then {T = List (ℕ × Tree)} {U = List (ℕ × Tree)} (λ found. walk_all found ts us) (walk pairs t u)
