use Rattle.std.proofs.Common.{arith}
use Rattle.tptp_tree.proofs.SizeLemmas.{term-item-is}
use Rattle.axiom_filter.proofs.numbering.+push_term_symbols.Goals as goal

pub push_terms_symbols-push_term_symbols-requires : goal.push_terms_symbols-push_term_symbols-requires
push_terms_symbols-push_term_symbols-requires t c =
    (omega (arith, term-item-is _ _ _ c.loop-term-test.true c.term-item.is, c.decreases), tt)
