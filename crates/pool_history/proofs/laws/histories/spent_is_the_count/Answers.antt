use Rattle.pool_history.proofs.AboutCounting.SpentLemmas.{spent_is_the_count}
use Rattle.pool_history.proofs.laws.histories.spent_is_the_count.Goals as goal

pub returns : goal.returns
returns c = spent_is_the_count
