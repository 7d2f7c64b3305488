use Rattle.pool_history.proofs.AboutOutcomes.OutcomeLemmas.{outcomes_stay}
use Rattle.pool_history.proofs.laws.histories.outcomes_stay.Goals as goal

pub returns : goal.returns
returns c = outcomes_stay
