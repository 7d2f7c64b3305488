use Rattle.laws_calculus.proofs.AboutCovering.RewriteLemmas.{reductions_covered}
use Rattle.laws_calculus.proofs.laws.coverage.reductions_covered.Goals as goal

pub returns : goal.returns
returns c = reductions_covered
