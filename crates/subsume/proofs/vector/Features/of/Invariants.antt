use Rattle.std.proofs.Common.{take}
use Rattle.subsume.specs.Features.{AreFeaturesOf}
use Rattle.subsume.proofs.vector.Features.of.Given as goal

abbrev pub invariant-loop-index : goal.invariant-loop-index
invariant-loop-index g l = AreFeaturesOf (take l.index (g.L.LendsLiterals.meaning l.literals)) l.features.values
