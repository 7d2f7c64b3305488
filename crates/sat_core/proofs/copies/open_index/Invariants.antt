use Rattle.std.proofs.Common.{take}
use Rattle.sat_core.specs.Search.{OthersFalse}
use Rattle.sat_core.proofs.copies.open_index.Given as goal

abbrev pub invariant-loop-index : goal.invariant-loop-index
invariant-loop-index l = OthersFalse l.trail.slots.items (take l.index l.literals) l.first
