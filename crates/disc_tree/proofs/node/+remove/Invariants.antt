use Rattle.std.proofs.Common.{◌+◌, ◌*◌}
use Rattle.disc_tree.specs.Rows.{rows, weight}
use Rattle.disc_tree.specs.Children.{rows_below}
use Rattle.disc_tree.proofs.node.+remove.Given as goal

abbrev pub decreases-Node::remove : goal.decreases-Node::remove
decreases-Node::remove l = 2 * weight (rows l.self.now)

abbrev pub decreases-Below::take_away : goal.decreases-Below::take_away
decreases-Below::take_away l = 2 * weight (rows_below l.self.now) + 1
