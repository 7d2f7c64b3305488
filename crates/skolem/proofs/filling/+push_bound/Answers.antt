use Rattle.std.proofs.Common.{arith}
use Rattle.tptp_tree.proofs.SizeLemmas.{term-item-is}
use Rattle.skolem.proofs.filling.+push_bound.Goals as goal

pub push_all_bound-push_bound-requires : goal.push_all_bound-push_bound-requires
push_all_bound-push_bound-requires t c =
    (omega (arith, term-item-is _ _ _ c.loop-term-test.true c.term-item.is, c.decreases), tt)
