use Rattle.std.proofs.Common.{arith}
use Rattle.tptp_tree.proofs.SizeLemmas.{term-item-is}
use Rattle.clausal_form.proofs.closing.+push_term_names.Goals as goal

pub push_all_term_names-push_term_names-requires : goal.push_all_term_names-push_term_names-requires
push_all_term_names-push_term_names-requires t c =
    (omega (arith, term-item-is _ _ _ c.loop-term-test.true c.term-item.is, c.decreases), tt)
