use Rattle.std.proofs.Common.{◌≡◌, length}
use Rattle.subsume.specs.Crowding.{AreMarked}
use Rattle.subsume.proofs.crowding.mark_partners.Given as goal

abbrev pub invariant-loop-at : goal.invariant-loop-at
invariant-loop-at l = (length l.marks ≡ length l.fn.marks) × AreMarked l.fn.marks l.marks l.room.items
