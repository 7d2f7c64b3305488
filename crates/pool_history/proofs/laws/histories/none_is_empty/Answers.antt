use Rattle.pool_history.proofs.AboutRecords.LivingLemmas.{none_is_empty}
use Rattle.pool_history.proofs.laws.histories.none_is_empty.Goals as goal

pub returns : goal.returns
returns c = none_is_empty
