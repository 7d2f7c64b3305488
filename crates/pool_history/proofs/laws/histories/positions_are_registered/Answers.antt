use Rattle.pool_history.proofs.AboutRecords.PlaceLemmas.{positions_are_registered}
use Rattle.pool_history.proofs.laws.histories.positions_are_registered.Goals as goal

pub returns : goal.returns
returns c = positions_are_registered
