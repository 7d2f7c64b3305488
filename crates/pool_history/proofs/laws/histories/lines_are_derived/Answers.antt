use Rattle.pool_history.proofs.AboutLines.BeginningLemmas.{lines_are_derived}
use Rattle.pool_history.proofs.laws.histories.lines_are_derived.Goals as goal

pub returns : goal.returns
returns c = lines_are_derived
