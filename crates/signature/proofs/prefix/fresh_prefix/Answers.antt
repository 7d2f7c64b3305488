use Rattle.signature.proofs.PrefixLemmas.{one_underscore_more}
use Rattle.signature.proofs.prefix.fresh_prefix.Goals as goal

pub loop-preserved : goal.loop-preserved
loop-preserved c = one_underscore_more _ _ _ _ c.in_ok-push.ensures.items c.loop.invariant
