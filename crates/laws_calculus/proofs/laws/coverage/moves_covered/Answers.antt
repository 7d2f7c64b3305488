use Rattle.laws_calculus.proofs.AboutCovering.MoveLemmas.{moves_covered, moved_away_covered}
use Rattle.laws_calculus.proofs.laws.coverage.moves_covered.Goals as goal

pub returns-clause-reduced : goal.returns-clause-reduced
returns-clause-reduced c = moves_covered

pub returns-clause-away : goal.returns-clause-away
returns-clause-away c = moved_away_covered
