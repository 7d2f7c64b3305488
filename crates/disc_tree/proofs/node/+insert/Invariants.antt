use Rattle.std.proofs.Common.{◌+◌, ◌*◌}
use Rattle.disc_tree.specs.Rows.{rows, weight}
use Rattle.disc_tree.specs.Children.{rows_below}
use Rattle.disc_tree.proofs.node.+insert.Given as goal

abbrev pub decreases-Node::insert : goal.decreases-Node::insert
decreases-Node::insert l = 2 * weight (rows l.self.now)

abbrev pub decreases-Below::add : goal.decreases-Below::add
decreases-Below::add l = 2 * weight (rows_below l.self.now) + 1
