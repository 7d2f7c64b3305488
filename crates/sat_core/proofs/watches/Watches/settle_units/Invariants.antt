use Rattle.std.proofs.Common.{◌≡◌, length}
use Rattle.sat_core.specs.Search.{Propagates}
use Rattle.sat_core.specs.Known.{known}
use Rattle.sat_core.proofs.watches.Watches.settle_units.Given as goal

abbrev pub invariant-loop-number : goal.invariant-loop-number
invariant-loop-number l = record {
  propagates : Propagates (known l.clauses) l.initial.trail.entries.items l.initial.trail.slots.items l.trail.entries.items l.trail.slots.items;
  lists : length l.self.lists.items ≡ length l.initial.self.lists.items;
  copies : l.self.copies.items ≡ l.initial.self.copies.items;
}

abbrev pub decreases-loop-number : goal.decreases-loop-number
decreases-loop-number l = length l.self.units.items
