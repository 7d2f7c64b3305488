-- Each term of a list is smaller than the list, which is why a recursion down a term ends.
use Rattle.std.specs.Prelude.{◌≤◌, List, [], ◌∷◌, map}
use Rattle.std.proofs.Common.{arith}
use denote.Param.Weighed.{most}
use Rattle.fol_base.specs.Tree.{tree_size, trees_size, trees_of}
use Rattle.fol_base.specs.Term.{tree_of}
use Rattle.fol_base.specs.declared.term.Term.{Term}
use Rattle.fol_base.specs.declared.term.Term.TheVariants.{Var, App}
use Rattle.fol_base.specs.declared.term.Terms.TheDeep.{deep-Term}

pub deep-Term-≤ : (t : Term) → deep-Term t ≤ tree_size (tree_of t)
deep-Term-≤ (Var v) = omega arith
deep-Term-≤ (App f ts) = omega arith

pub most-deep-Term-≤ : (ts : List Term) → most deep-Term ts ≤ trees_size (trees_of (map tree_of ts))
most-deep-Term-≤ [] = omega arith
most-deep-Term-≤ (t ∷ ts) = omega (arith, deep-Term-≤ t, most-deep-Term-≤ ts)
