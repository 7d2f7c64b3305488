use Rattle.pool_history.proofs.AboutClaims.StayingLemmas.{batches_stay_right}
use Rattle.pool_history.proofs.laws.histories.batches_stay_right.Goals as goal

pub returns : goal.returns
returns c = batches_stay_right
