use Rattle.pool_history.proofs.AboutRecords.PlaceLemmas.{told_have_positions}
use Rattle.pool_history.proofs.laws.histories.told_have_positions.Goals as goal

pub returns : goal.returns
returns c = told_have_positions
