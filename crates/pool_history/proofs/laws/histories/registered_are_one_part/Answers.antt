use Rattle.pool_history.proofs.AboutLines.OnePartLemmas.{registered_are_one_part}
use Rattle.pool_history.proofs.laws.histories.registered_are_one_part.Goals as goal

pub returns : goal.returns
returns c = registered_are_one_part
