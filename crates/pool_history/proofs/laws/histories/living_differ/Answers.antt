use Rattle.pool_history.proofs.AboutRecords.LivingLemmas.{living_differ}
use Rattle.pool_history.proofs.laws.histories.living_differ.Goals as goal

pub returns : goal.returns
returns c = living_differ
