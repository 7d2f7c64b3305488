use Rattle.pool_history.proofs.AboutLines.FinestLemmas.{computed-finest}
use Rattle.pool_history.proofs.laws.components.components_are_finest.Goals as goal

pub returns : goal.returns
returns c = computed-finest
