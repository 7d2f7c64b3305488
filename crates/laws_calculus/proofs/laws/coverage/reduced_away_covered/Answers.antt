use Rattle.laws_calculus.proofs.AboutCovering.RewriteLemmas.{reduced_away_covered}
use Rattle.laws_calculus.proofs.laws.coverage.reduced_away_covered.Goals as goal

pub returns : goal.returns
returns c = reduced_away_covered
