use Rattle.clause_queue.proofs.Numbers.{pick_unique}
use Rattle.clause_queue.proofs.laws.picks_are_unique.Goals as goal

pub returns : goal.returns
returns c = pick_unique
