-- Terms that no substitutions make equal, with the sides apart, since they have different symbols at one place.
use Rattle.std.specs.Prelude.{◌≡◌, Bool, true, false, ◌||◌, ◌==◌, if◌then◌else◌}
use Rattle.fol_base.specs.Tree.{Tree, variable, application, Trees, no_trees, tree_then}
use Rattle.fol_base.specs.Instance.{Substitution, instances}
use Rattle.fol_base.specs.Unifier.{IsUnifierApart}

-- different symbols, or different numbers of arguments, at one place of both
abbrev mutual
  pub clash : Tree → Tree → Bool
  clash (variable v) t = false
  clash (application f ts) (variable w) = false
  clash (application f ts) (application g us) = if f == g then clash_in ts us else true

  pub clash_in : Trees → Trees → Bool
  clash_in no_trees no_trees = false
  clash_in no_trees (tree_then u us) = true
  clash_in (tree_then t ts) no_trees = true
  clash_in (tree_then t ts) (tree_then u us) = clash t u || clash_in ts us

abbrev pub CannotUnify : Tree → Tree → Type 0
CannotUnify s t = (σ τ : Substitution) → IsUnifierApart s t σ τ → ⊥

abbrev pub CannotUnifyAll : Trees → Trees → Type 0
CannotUnifyAll ts us = (σ τ : Substitution) → instances σ ts ≡ instances τ us → ⊥
