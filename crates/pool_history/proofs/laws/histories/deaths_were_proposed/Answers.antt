use Rattle.pool_history.proofs.AboutCounting.ProposedLemmas.{deaths_were_proposed}
use Rattle.pool_history.proofs.laws.histories.deaths_were_proposed.Goals as goal

pub returns : goal.returns
returns c = deaths_were_proposed
