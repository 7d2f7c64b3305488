use Rattle.std.proofs.Common.{arith}
use Rattle.tptp_tree.proofs.SizeLemmas.{formula-item-is}
use Rattle.clausal_form.proofs.closing.+push_free_names.Goals as goal

pub push_all_free_names-push_free_names-requires : goal.push_all_free_names-push_free_names-requires
push_all_free_names-push_free_names-requires t c =
    (omega (arith, formula-item-is _ _ _ c.loop-formula-test.true c.formula-item.is, c.decreases), tt)
