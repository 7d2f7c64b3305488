use Rattle.unifier.specs.Classes.{IsOnTheWay}
use Rattle.unifier.proofs.classes.Classes.find.Given as goal

abbrev pub invariant-loop-at : goal.invariant-loop-at
invariant-loop-at l = IsOnTheWay l.self l.cell l.at

abbrev pub decreases-loop-at : goal.decreases-loop-at
decreases-loop-at l = l.at
