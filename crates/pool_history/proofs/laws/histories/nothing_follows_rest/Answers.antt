use Rattle.pool_history.proofs.AboutOutcomes.OutcomeLemmas.{nothing_follows_rest}
use Rattle.pool_history.proofs.laws.histories.nothing_follows_rest.Goals as goal

pub returns : goal.returns
returns c = nothing_follows_rest
