use Rattle.pool_history.proofs.AboutLines.BeginningLemmas.{registered_are_whole}
use Rattle.pool_history.proofs.laws.histories.registered_are_whole.Goals as goal

pub returns : goal.returns
returns c = registered_are_whole
