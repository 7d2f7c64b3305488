use Rattle.std.proofs.Common.{arith}
use Rattle.tptp_tree.proofs.SizeLemmas.{term-item-is}
use Rattle.clausal_form.proofs.heavy.+term_size_from.Goals as goal

pub terms_size_from-term_size_from-total-requires : goal.terms_size_from-term_size_from-total-requires
terms_size_from-term_size_from-total-requires t c =
    (omega (arith, term-item-is _ _ _ c.loop-term-test.true c.term-item.is, c.decreases), c.loop-term.invariant.1)
