use Rattle.std.proofs.Common.{◌≡◌, take}
use Rattle.sat_core.proofs.copies.ClauseCopy.whole.Given as goal

abbrev pub invariant-loop-literal : goal.invariant-loop-literal
invariant-loop-literal l = l.copy.items ≡ take l.literal-index l.literals
