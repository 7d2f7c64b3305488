use Rattle.std.proofs.Common.{◌≤◌, map}
use Rattle.fol_base.specs.Lent.{lent_of}
use Rattle.subsume.proofs.AboutSearch.CrowdingLemmas.{AreWithin}
use Rattle.subsume.proofs.crowding.is_room_short.Given as goal

abbrev pub invariant-loop-one : goal.invariant-loop-one
invariant-loop-one l =
    (l.crowd ≤ l.one-index) × AreWithin (map lent_of l.patterns) (map lent_of l.targets) l.fn.marks l.so_far l.room.items l.crowd l.one-index
