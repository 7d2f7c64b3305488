use Rattle.worker_team.proofs.OutcomeLemmas.{outcomes-have-causes}
use Rattle.worker_team.proofs.laws.outcomes_have_causes.Goals as goal

pub returns : goal.returns
returns c = outcomes-have-causes
