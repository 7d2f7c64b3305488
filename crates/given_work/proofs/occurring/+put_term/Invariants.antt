use Rattle.std.proofs.Common.{◌+◌, ◌*◌, map}
use Rattle.fol_base.specs.Tree.{tree_size, trees_size, trees_of}
use Rattle.fol_base.specs.Term.{tree_of}
use Rattle.disc_tree.specs.Entries.{KeepsAll}
use Rattle.given_work.proofs.AboutMeeting.OccurringLemmas.{ListsBelow}
use Rattle.given_work.proofs.occurring.+put_term.Given as goal

abbrev pub decreases-put_term : goal.decreases-put_term
decreases-put_term l = 2 * tree_size (tree_of l.term.now)

abbrev pub decreases-put_arguments : goal.decreases-put_arguments
decreases-put_arguments l = 2 * trees_size (trees_of (map tree_of l.arguments.now)) + 1

abbrev pub invariant-put_arguments-loop-index : goal.invariant-put_arguments-loop-index
invariant-put_arguments-loop-index l =
    ListsBelow l.index l.number l.terms (map tree_of l.arguments) × KeepsAll l.initial.terms l.terms
