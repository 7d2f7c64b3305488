use Rattle.unifier.proofs.AboutLayouts.PlacingLemmas.{SweepSoFar}
use Rattle.unifier.proofs.placing.Placing.sweep.Given as goal

abbrev pub invariant-loop-cell : goal.invariant-loop-cell
invariant-loop-cell l = SweepSoFar l.cells l.classes l.initial.self l.self l.cell l.placed l.waiting
