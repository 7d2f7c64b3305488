use Rattle.pool_history.proofs.AboutCounting.ReducedLemmas.{replaced_were_reduced}
use Rattle.pool_history.proofs.laws.histories.replaced_were_reduced.Goals as goal

pub returns : goal.returns
returns c = replaced_were_reduced
