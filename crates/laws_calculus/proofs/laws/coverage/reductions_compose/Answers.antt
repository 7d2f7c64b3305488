use Rattle.laws_calculus.proofs.AboutCovering.RewriteLemmas.{reductions_compose}
use Rattle.laws_calculus.proofs.laws.coverage.reductions_compose.Goals as goal

pub returns : goal.returns
returns c = reductions_compose
