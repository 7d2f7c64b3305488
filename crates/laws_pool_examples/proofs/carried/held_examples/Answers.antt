use Rattle.std.proofs.Common.{refl}
use Rattle.laws_pool_examples.proofs.WorkedExamples.CarriedExamples.{held, dead}
use Rattle.laws_pool_examples.proofs.carried.held_examples.Goals as goal

pub returns : goal.returns
returns c = record { held = held; dead = dead; awake = refl; asleep = refl; both_awake = refl; member = refl; no_member = refl }
