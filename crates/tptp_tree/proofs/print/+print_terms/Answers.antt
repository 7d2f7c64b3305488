use Rattle.std.proofs.Common.{arith}
use Rattle.tptp_tree.proofs.AboutTrees.SizeLemmas.{term-item-is}
use Rattle.tptp_tree.proofs.print.+print_terms.Goals as goal

pub push_more_arguments-push_term-requires : goal.push_more_arguments-push_term-requires
push_more_arguments-push_term-requires t c =
    (omega (arith, term-item-is _ _ _ c.loop-argument-test.true c.argument-item.is, c.decreases), tt)
