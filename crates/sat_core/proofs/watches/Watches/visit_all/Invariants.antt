use Rattle.std.proofs.Common.{◌≡◌, ◌≤◌, length}
use Rattle.sat_core.specs.Search.{Propagates}
use Rattle.sat_core.specs.Known.{known}
use Rattle.sat_core.specs.State.{SameClauses}
use Rattle.sat_core.proofs.watches.Watches.visit_all.Given as goal

abbrev pub invariant-loop : goal.invariant-loop
invariant-loop l = record {
  propagates : Propagates (known l.clauses) l.initial.trail.entries.items l.initial.trail.slots.items l.trail.entries.items l.trail.slots.items;
  lists : length l.self.lists.items ≡ length l.initial.self.lists.items;
  copies : SameClauses l.self.copies.items (known l.clauses);
  seen : l.self.seen ≡ l.initial.self.seen;
  index : l.index ≤ l.counter;
}
