use Rattle.pool_history.proofs.AboutOutcomes.EndLemmas.{nothing_comes_after}
use Rattle.pool_history.proofs.laws.histories.nothing_comes_after.Goals as goal

pub returns : goal.returns
returns c = nothing_comes_after
