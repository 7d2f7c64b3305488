use Rattle.pool_history.proofs.AboutLines.BeginningLemmas.{refuted_is_refutation}
use Rattle.pool_history.proofs.laws.histories.refuted_is_refutation.Goals as goal

pub returns : goal.returns
returns c = refuted_is_refutation
