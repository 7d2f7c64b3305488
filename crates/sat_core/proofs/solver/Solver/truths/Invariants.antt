use Rattle.std.proofs.Common.{◌≡◌, take}
use Rattle.sat_core.specs.Search.{values_of}
use Rattle.sat_core.proofs.solver.Solver.truths.Given as goal

abbrev pub invariant-loop-slot : goal.invariant-loop-slot
invariant-loop-slot l = l.truths.items ≡ values_of (take l.slot-index l.slot-items)
