use Rattle.std.proofs.Common.{◌≡◌, length}
use Rattle.sat_core.proofs.watches.Watches.keep.Given as goal

abbrev pub invariant-loop-list : goal.invariant-loop-list
invariant-loop-list l = record {
  lists : length l.self.lists.items ≡ length l.initial.self.lists.items;
  copies : l.self.copies.items ≡ l.initial.self.copies.items;
}
