use Rattle.unifier.specs.Classes.{total, FollowsFrom}
use Rattle.unifier.proofs.classes.Classes.close.Given as goal

abbrev pub invariant-loop : goal.invariant-loop
invariant-loop l = FollowsFrom l.cells l.first l.second l.initial.self l.self

abbrev pub decreases-loop : goal.decreases-loop
decreases-loop l = total l.self.parents.items
