use Rattle.std.proofs.Common.{◌≡◌, ◌++◌, map, take}
use Rattle.std.specs.Prelude.{flat_map}
use Rattle.fol_base.specs.Tree.{tree_variables}
use Rattle.skolem.specs.BoundTerm.{bound_tree}
use Rattle.skolem.proofs.literal.push_bound_variables.Given as goal

abbrev pub invariant-loop-term : goal.invariant-loop-term
invariant-loop-term l = l.found.items ≡ l.initial.found.items ++ flat_map tree_variables (map bound_tree (take l.term-index l.terms))
