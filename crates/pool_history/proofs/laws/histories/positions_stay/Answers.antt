use Rattle.pool_history.proofs.AboutRecords.JobNumberLemmas.{positions_stay}
use Rattle.pool_history.proofs.laws.histories.positions_stay.Goals as goal

pub returns : goal.returns
returns c = positions_stay
