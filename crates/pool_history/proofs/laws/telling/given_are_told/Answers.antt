use Rattle.pool_history.proofs.AboutCounting.CountedLemmas.{given_are_told}
use Rattle.pool_history.proofs.laws.telling.given_are_told.Goals as goal

pub returns : goal.returns
returns c = given_are_told
