use Rattle.unifier.specs.Placing.{IsPlacing, waiting}
use Rattle.unifier.proofs.placing.Placing.order.Given as goal

abbrev pub invariant-loop-placing : goal.invariant-loop-placing
invariant-loop-placing l = IsPlacing l.cells l.classes l.placing

abbrev pub decreases-loop-placing : goal.decreases-loop-placing
decreases-loop-placing l = waiting l.placing.places.items
