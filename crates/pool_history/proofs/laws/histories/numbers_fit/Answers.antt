use Rattle.pool_history.proofs.AboutRecords.NumberLemmas.{numbers_fit}
use Rattle.pool_history.proofs.laws.histories.numbers_fit.Goals as goal

pub returns : goal.returns
returns c = numbers_fit
