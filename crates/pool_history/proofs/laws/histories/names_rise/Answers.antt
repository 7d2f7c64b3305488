use Rattle.pool_history.proofs.AboutLines.BeginningLemmas.{names_rise}
use Rattle.pool_history.proofs.laws.histories.names_rise.Goals as goal

pub returns : goal.returns
returns c = names_rise
