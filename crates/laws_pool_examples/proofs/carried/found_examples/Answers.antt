use Rattle.std.proofs.Common.{refl}
use Rattle.laws_pool_examples.proofs.carried.found_examples.Goals as goal

pub returns : goal.returns
returns c = record { found = refl; nothing = refl; last = refl; earlier = refl; no_premise = refl }
