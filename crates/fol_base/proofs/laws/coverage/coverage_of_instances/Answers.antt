use Rattle.fol_base.proofs.AboutInstances.CoverageLemmas.{covers_instances}
use Rattle.fol_base.proofs.laws.coverage.coverage_of_instances.Goals as goal

pub returns : goal.returns
returns c = covers_instances
