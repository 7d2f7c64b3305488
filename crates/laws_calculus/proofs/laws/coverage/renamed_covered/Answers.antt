use Rattle.laws_calculus.proofs.AboutCovering.CoverLemmas.{renamed_covered}
use Rattle.laws_calculus.proofs.laws.coverage.renamed_covered.Goals as goal

pub returns : goal.returns
returns c = renamed_covered
