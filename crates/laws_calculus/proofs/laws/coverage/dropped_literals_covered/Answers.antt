use Rattle.laws_calculus.proofs.AboutCovering.CoverLemmas.{dropped_literals_covered}
use Rattle.laws_calculus.proofs.laws.coverage.dropped_literals_covered.Goals as goal

pub returns : goal.returns
returns c = dropped_literals_covered
