use Rattle.std.proofs.Common.{arith}
use Rattle.tptp_tree.proofs.AboutTrees.SizeLemmas.{formula-item-is}
use Rattle.tptp_tree.proofs.print.+print.Goals as goal

pub push_more_operands-push_wrapped-requires : goal.push_more_operands-push_wrapped-requires
push_more_operands-push_wrapped-requires t c =
    (omega (arith, formula-item-is _ _ _ c.loop-formula-test.true c.formula-item.is, c.decreases), tt)
