use Rattle.pool_history.proofs.AboutCounting.SizedLemmas.{heavy_or_not}
use Rattle.pool_history.proofs.laws.histories.heavy_or_not.Goals as goal

pub returns : goal.returns
returns c = heavy_or_not
