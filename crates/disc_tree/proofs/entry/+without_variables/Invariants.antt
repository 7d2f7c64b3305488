use Rattle.std.proofs.Common.{◌≡◌, ◌+◌, ◌*◌, map, take, Some}
use Rattle.fol_base.specs.Tree.{tree_size, trees_size, trees_of, trees_variables}
use Rattle.fol_base.specs.Term.{tree_of}
use Rattle.disc_tree.specs.Entries.{without_front}
use Rattle.disc_tree.proofs.entry.+without_variables.Given as goal

abbrev pub decreases-without_variables : goal.decreases-without_variables
decreases-without_variables l = 2 * tree_size (tree_of l.term.now)

abbrev pub decreases-without_all_variables : goal.decreases-without_all_variables
decreases-without_all_variables l = 2 * trees_size (trees_of l.terms.now) + 1

abbrev pub invariant-without_all_variables-loop-term : goal.invariant-without_all_variables-loop-term
invariant-without_all_variables-loop-term l =
    without_front (trees_variables (trees_of (map tree_of (take l.term-index l.term-items)))) l.initial.others ≡ Some l.others
