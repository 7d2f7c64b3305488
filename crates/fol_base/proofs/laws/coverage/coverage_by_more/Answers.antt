use Rattle.fol_base.proofs.AboutInstances.CoverageLemmas.{covers_more}
use Rattle.fol_base.proofs.laws.coverage.coverage_by_more.Goals as goal

pub returns : goal.returns
returns c = covers_more
