use Rattle.pool_history.proofs.AboutCounting.JustifiedLemmas.{deaths_are_justified}
use Rattle.pool_history.proofs.laws.histories.deaths_are_justified.Goals as goal

pub returns : goal.returns
returns c = deaths_are_justified
