use Rattle.std.proofs.Common.{◌≡◌, ◌≤◌, ◌+◌, ◌*◌, ◌++◌, suc, take}
use Rattle.disc_tree.specs.Entries.{IsBeginning}
use Rattle.disc_tree.specs.Rows.{rows, weight, all_below, found_in}
use Rattle.disc_tree.specs.Children.{rows_below}
use Rattle.disc_tree.specs.Work.{trees_left, terms_left}
use Rattle.disc_tree.proofs.query.+collect.Given as goal

abbrev pub decreases-collect : goal.decreases-collect
decreases-collect g l = 4 * weight (rows l.node.now) + 2

abbrev pub decreases-collect_child : goal.decreases-collect_child
decreases-collect_child g l = 4 * weight (rows l.node.now)

abbrev pub decreases-collect_star : goal.decreases-collect_star
decreases-collect_star g l = 4 * weight (rows l.node.now) + 1

abbrev pub decreases-collect_children : goal.decreases-collect_children
decreases-collect_children g l = 4 * weight (rows l.node.now) + 1

abbrev pub decreases-collect_below : goal.decreases-collect_below
decreases-collect_below g l = 4 * weight (rows_below l.below.now) + 3

abbrev pub invariant-collect_children-loop-index : goal.invariant-collect_children-loop-index
invariant-collect_children-loop-index g l =
    (l.found.items
    ≡ l.initial.found.items
    ++ found_in l.varying.entry l.varying.query (suc (terms_left l.skipped)) (trees_left l.rest) (all_below (take l.index l.node.1)))
    × (l.initial.steps ≤ l.steps) × IsBeginning l.initial.found.items l.found.items
