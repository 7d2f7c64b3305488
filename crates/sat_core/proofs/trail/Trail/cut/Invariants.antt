use Rattle.std.proofs.Common.{◌≤◌, length}
use Rattle.sat_core.specs.Trail.{Cuts}
use Rattle.sat_core.proofs.trail.Trail.cut.Given as goal

abbrev pub invariant-loop-self : goal.invariant-loop-self
invariant-loop-self l = record {
  left : Cuts (length l.self.entries.items) l.initial.self.entries.items l.initial.self.slots.items l.self.entries.items l.self.slots.items;
  within : l.count ≤ length l.self.entries.items;
}

abbrev pub decreases-loop-self : goal.decreases-loop-self
decreases-loop-self l = length l.self.entries.items
