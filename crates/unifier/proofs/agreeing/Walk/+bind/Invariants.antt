use Rattle.unifier.proofs.agreeing.Walk.+bind.Given as goal

abbrev pub decreases-bind : goal.decreases-bind
decreases-bind l = l.levels
