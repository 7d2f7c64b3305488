use Rattle.pool_history.proofs.AboutRecords.NumberLemmas.{tags_fit}
use Rattle.pool_history.proofs.laws.histories.tags_fit.Goals as goal

pub returns : goal.returns
returns c = tags_fit
