use Rattle.pool_history.proofs.AboutCounting.CountedLemmas.{counted_once}
use Rattle.pool_history.proofs.laws.histories.counted_once.Goals as goal

pub returns : goal.returns
returns c = counted_once
