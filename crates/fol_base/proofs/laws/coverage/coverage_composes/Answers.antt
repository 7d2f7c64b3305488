use Rattle.fol_base.proofs.AboutInstances.CoverageLemmas.{covers_across}
use Rattle.fol_base.proofs.laws.coverage.coverage_composes.Goals as goal

pub returns : goal.returns
returns c = covers_across
