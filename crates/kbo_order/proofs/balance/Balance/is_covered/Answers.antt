use Rattle.std.proofs.Common.{refl, arith}
use Rattle.kbo_order.proofs.AboutReading.CoverLemmas.{covered-by}
use Rattle.kbo_order.proofs.balance.Balance.is_covered.Goals as goal

pub returns : goal.returns
returns c = covered-by _ c.args.least c.args.self.now c.requires (omega arith) refl
