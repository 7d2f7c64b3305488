use Rattle.pool_history.proofs.AboutClaims.PickLemmas.{picks_are_chosen}
use Rattle.pool_history.proofs.laws.histories.picks_are_chosen.Goals as goal

pub returns : goal.returns
returns c = picks_are_chosen
