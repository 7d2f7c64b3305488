use Rattle.std.proofs.Common.{◌≡◌, false, take}
use Rattle.std.specs.List.{list_any}
use Rattle.sat_core.specs.Trail.{is_true}
use Rattle.sat_core.proofs.solver.has_true_literal.Given as goal

abbrev pub invariant-loop-literal : goal.invariant-loop-literal
invariant-loop-literal l = list_any (is_true l.trail.slots.items) (take l.literal-index l.literals) ≡ false
