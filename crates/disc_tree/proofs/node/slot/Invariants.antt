use Rattle.std.proofs.Common.{◌-◌, ◌≤◌, length, take, drop}
use Rattle.disc_tree.specs.Rows.{AreBefore, AreNotBefore}
use Rattle.disc_tree.specs.Children.{children_of}
use Rattle.disc_tree.proofs.node.slot.Given as goal

abbrev pub invariant-loop-low : goal.invariant-loop-low
invariant-loop-low l = record {
  low : l.low ≤ l.high;
  high : l.high ≤ length l.branches;
  smaller : AreBefore (take l.low (children_of l.branches)) l.label;
  others : AreNotBefore (drop l.high (children_of l.branches)) l.label;
}

abbrev pub decreases-loop-low : goal.decreases-loop-low
decreases-loop-low l = l.high - l.low
