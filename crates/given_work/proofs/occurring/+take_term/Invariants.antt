use Rattle.std.proofs.Common.{◌+◌, ◌*◌, map}
use Rattle.fol_base.specs.Tree.{tree_size, trees_size, trees_of}
use Rattle.fol_base.specs.Term.{tree_of}
use Rattle.unit_cutting.specs.Indexed.{KeepsOthers}
use Rattle.given_work.proofs.occurring.+take_term.Given as goal

abbrev pub decreases-take_term : goal.decreases-take_term
decreases-take_term l = 2 * tree_size (tree_of l.term.now)

abbrev pub decreases-take_arguments : goal.decreases-take_arguments
decreases-take_arguments l = 2 * trees_size (trees_of (map tree_of l.arguments.now)) + 1

abbrev pub invariant-take_arguments-loop-index : goal.invariant-take_arguments-loop-index
invariant-take_arguments-loop-index l = KeepsOthers l.number l.initial.terms l.terms
