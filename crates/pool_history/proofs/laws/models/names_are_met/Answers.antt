use Rattle.pool_history.proofs.AboutLines.BeginningLemmas.{names_are_met}
use Rattle.pool_history.proofs.laws.models.names_are_met.Goals as goal

pub returns : goal.returns
returns c = names_are_met
