use Rattle.std.proofs.Common.{arith}
use Rattle.tptp_tree.proofs.SizeLemmas.{term-item-is}
use Rattle.skolem.proofs.occurring.+push_in_term.Goals as goal

pub push_in_terms-push_in_term-requires : goal.push_in_terms-push_in_term-requires
push_in_terms-push_in_term-requires t c =
    (omega (arith, term-item-is _ _ _ c.loop-term-test.true c.term-item.is, c.decreases), c.requires.inner)
