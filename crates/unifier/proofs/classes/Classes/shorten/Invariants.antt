use Rattle.std.proofs.Common.{length}
use Rattle.unifier.specs.Joining.{IsOnShorterWay}
use Rattle.unifier.proofs.classes.Classes.shorten.Given as goal

abbrev pub invariant-loop-at : goal.invariant-loop-at
invariant-loop-at l = IsOnShorterWay (length l.initial.self.parents.items) l.initial.self l.self l.cell l.at

abbrev pub decreases-loop-at : goal.decreases-loop-at
decreases-loop-at l = l.at
