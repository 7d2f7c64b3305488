use Rattle.std.proofs.Common.{rules}
use Rattle.turn_lock.proofs.Keeps.{plans}
use Rattle.turn_lock.proofs.Passes.{splits}
use Rattle.turn_lock.proofs.lock.TurnLock.split_pass.Goals as goal

pub compare_exchange-requires : goal.compare_exchange-requires
compare_exchange-requires g c = (search rules, search rules, plans _ _ _ _ _ _ _ _)

pub split_seat-other-requires : goal.split_seat-other-requires
split_seat-other-requires g c = (search rules, search rules, splits _ _ _ _ _ _ (search rules) (search rules) (search rules))
