use Rattle.std.proofs.Common.{take}
use Rattle.sat_core.specs.Search.{AreAssigned}
use Rattle.sat_core.proofs.solver.free_literal.Given as goal

abbrev pub invariant-loop-literal : goal.invariant-loop-literal
invariant-loop-literal l = AreAssigned l.trail.slots.items (take l.literal-index l.literals)
