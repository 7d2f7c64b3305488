use Rattle.laws_calculus.proofs.AboutCovering.CoverLemmas.{tautologies_covered}
use Rattle.laws_calculus.proofs.laws.coverage.tautologies_covered.Goals as goal

pub returns : goal.returns
returns c = tautologies_covered
