-- Terms that are read under a substitution, or that are bound already and stand for themselves.
use Rattle.std.specs.Prelude.{ℕ, Bool, true, false, List, drop, map}
use Rattle.fol_base.specs.Tree.{Tree, variable, Trees, trees_of}
use Rattle.fol_base.specs.Instance.{Substitution, instance, instances}
use Rattle.fol_base.specs.Term.{tree_of}
use Rattle.fol_base.specs.declared.term.Term.{Term}

-- the substitution of a walk: none in a term that is bound already
abbrev pub reading : Bool → Substitution → Substitution
reading true σ = variable
reading false σ = σ

-- the tree that a walk meets
abbrev pub seen : Bool → Substitution → Tree → Tree
seen is_bound σ t = instance (reading is_bound σ) t

-- the trees that it meets of a list, from an index on
abbrev pub seen_from : Bool → Substitution → List Term → ℕ → Trees
seen_from is_bound σ terms from = instances (reading is_bound σ) (trees_of (map tree_of (drop from terms)))
