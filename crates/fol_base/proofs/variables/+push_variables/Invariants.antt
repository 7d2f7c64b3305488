use Rattle.std.proofs.Common.{◌≡◌, ◌+◌, ◌*◌, ◌++◌, map, take}
use Rattle.fol_base.specs.Tree.{tree_size, trees_size, trees_of, trees_variables}
use Rattle.fol_base.specs.Term.{tree_of}
use Rattle.fol_base.proofs.variables.+push_variables.Given as goal

abbrev pub decreases-push_variables : goal.decreases-push_variables
decreases-push_variables l = 2 * tree_size (tree_of l.term.now)

abbrev pub decreases-push_all_variables : goal.decreases-push_all_variables
decreases-push_all_variables l = 2 * trees_size (trees_of l.terms.now) + 1

abbrev pub invariant-push_all_variables-loop-term : goal.invariant-push_all_variables-loop-term
invariant-push_all_variables-loop-term l =
    (l.found.items ≡ l.initial.found.items ++ trees_variables (trees_of (map tree_of (take l.term-index l.term-items))))
