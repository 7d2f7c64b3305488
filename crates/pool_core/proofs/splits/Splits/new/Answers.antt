use Rattle.std.proofs.Common.{refl}
use Rattle.pool_core.proofs.AboutSplits.SplitsLemmas.{none-split}
use Rattle.pool_core.proofs.splits.Splits.new.Goals as goal

pub returns : goal.returns
returns c = none-split _ c.new.ensures c.new-2.ensures.items c.new-3.ensures.items c.new-4.ensures c.new-5.ensures.items c.new-6.ensures refl
