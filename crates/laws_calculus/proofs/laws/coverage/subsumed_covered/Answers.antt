use Rattle.laws_calculus.proofs.AboutCovering.CoverLemmas.{subsumed_covered}
use Rattle.laws_calculus.proofs.laws.coverage.subsumed_covered.Goals as goal

pub returns : goal.returns
returns c = subsumed_covered
