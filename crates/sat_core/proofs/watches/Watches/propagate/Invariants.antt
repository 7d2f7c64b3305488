use Rattle.std.proofs.Common.{◌≡◌, ◌-◌, length}
use Rattle.sat_core.specs.Search.{Propagates}
use Rattle.sat_core.specs.Known.{known}
use Rattle.sat_core.specs.State.{SameClauses}
use Rattle.sat_core.proofs.watches.Watches.propagate.Given as goal

abbrev pub invariant-loop-self : goal.invariant-loop-self
invariant-loop-self l = record {
  propagates : Propagates (known l.clauses) l.fn.trail.entries.items l.fn.trail.slots.items l.trail.entries.items l.trail.slots.items;
  lists : length l.self.lists.items ≡ length l.fn.self.lists.items;
  copies : SameClauses l.self.copies.items (known l.clauses);
}

abbrev pub decreases-loop-self : goal.decreases-loop-self
decreases-loop-self l = length l.trail.slots.items - l.self.seen
