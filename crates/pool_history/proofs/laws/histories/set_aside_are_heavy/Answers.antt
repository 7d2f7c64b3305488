use Rattle.pool_history.proofs.AboutOutcomes.HeavyLemmas.{set_aside_are_heavy}
use Rattle.pool_history.proofs.laws.histories.set_aside_are_heavy.Goals as goal

pub returns : goal.returns
returns c = set_aside_are_heavy
