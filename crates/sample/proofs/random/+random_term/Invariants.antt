use Rattle.sample.proofs.random.+random_term.Given as goal

abbrev pub decreases-random_term : goal.decreases-random_term
decreases-random_term l = l.size
