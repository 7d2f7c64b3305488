use Rattle.std.proofs.Common.{◌<◌}
use Rattle.std.specs.Prelude.{IfSome}
use Rattle.subsume.specs.declared.editing.Cut.{Cut}
use Rattle.subsume.specs.declared.vector.TheConstants.{MEASURES}
use Rattle.subsume.proofs.editing.widest.Given as goal

abbrev pub invariant-loop-measure : goal.invariant-loop-measure
invariant-loop-measure l = IfSome l.widest (λ (cut : Cut). cut.measure < MEASURES)

abbrev pub invariant-loop-sign : goal.invariant-loop-sign
invariant-loop-sign l = IfSome l.widest (λ (cut : Cut). cut.measure < MEASURES)
