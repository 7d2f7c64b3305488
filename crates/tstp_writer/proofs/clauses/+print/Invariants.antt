use Rattle.std.proofs.Common.{◌≡◌, ◌+◌, ◌*◌, ◌++◌, map, drop}
use Rattle.fol_base.specs.Tree.{tree_size, trees_size, trees_of}
use Rattle.fol_base.specs.Term.{tree_of}
use Rattle.tptp_tree.specs.Printing.{more_arguments_text}
use Rattle.tstp_writer.specs.ClauseTrees.{term_trees}
use Rattle.tstp_writer.proofs.clauses.+print.Given as goal

abbrev pub decreases-push_term : goal.decreases-push_term
decreases-push_term l = 3 * tree_size (tree_of l.term.now)

abbrev pub decreases-push_arguments : goal.decreases-push_arguments
decreases-push_arguments l = 3 * trees_size (trees_of (map tree_of l.arguments.now)) + 2

abbrev pub decreases-push_more_arguments : goal.decreases-push_more_arguments
decreases-push_more_arguments l = 3 * trees_size (trees_of (map tree_of l.arguments.now)) + 1

abbrev pub invariant-push_more_arguments-loop-argument : goal.invariant-push_more_arguments-loop-argument
invariant-push_more_arguments-loop-argument l =
    l.page ++ more_arguments_text (term_trees l.symbols (trees_of (map tree_of (drop l.argument-index l.arguments))))
    ≡ l.initial.page ++ more_arguments_text (term_trees l.symbols (trees_of (map tree_of l.arguments)))
