use Rattle.std.proofs.Common.{◌+◌, ◌*◌}
use Rattle.disc_tree.specs.Rows.{rows, weight}
use Rattle.disc_tree.specs.Children.{rows_below}
use Rattle.disc_tree.proofs.first.+first.Given as goal

abbrev pub decreases-first_in : goal.decreases-first_in
decreases-first_in g l = 3 * weight (rows l.node.now) + 1

abbrev pub decreases-first_child : goal.decreases-first_child
decreases-first_child g l = 3 * weight (rows l.node.now)

abbrev pub decreases-first_below : goal.decreases-first_below
decreases-first_below g l = 3 * weight (rows_below l.below.now) + 2
