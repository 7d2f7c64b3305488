use Rattle.std.proofs.Common.{◌≡◌, length}
use Rattle.sat_core.specs.State.{AreCovered}
use Rattle.sat_core.proofs.marks.Marks.clear.Given as goal

abbrev pub invariant-loop-literal : goal.invariant-loop-literal
invariant-loop-literal l = record {
  left : AreCovered l.self.marked.items l.self.literals.items;
  names : length l.self.marked.items ≡ length l.initial.self.marked.items;
}

abbrev pub decreases-loop-literal : goal.decreases-loop-literal
decreases-loop-literal l = length l.self.literals.items
