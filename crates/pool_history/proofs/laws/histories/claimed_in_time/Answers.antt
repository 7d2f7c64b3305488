use Rattle.pool_history.proofs.AboutBounds.TimeLemmas.{claimed_in_time}
use Rattle.pool_history.proofs.laws.histories.claimed_in_time.Goals as goal

pub returns : goal.returns
returns c = claimed_in_time
