use Rattle.std.proofs.Common.{◌^◌, ◌-◌}
use Rattle.fol_base.specs.Lent.{lent_of}
use Rattle.kernel_steps.proofs.AboutCalls.LoopLemmas.{sizes_more, stopped_by_two}
use Rattle.kernel_steps.proofs.conclude.bound_size.Goals as goal

pub loop-index-preserved : goal.loop-index-preserved
loop-index-preserved g c =
    stopped_by_two _ _ _ _ _ _ _ _ _ (2 ^ 64 - 1) c.loop-index.invariant c.instance_size.ensures c.saturating_add.ensures
    c.instance_size-in-loop-index.ensures c.saturating_add-total.ensures
    (sizes_more (g.S.LendsTerms.meaning c.args.bind.now) (g.L.LendsLiterals.meaning c.args.literals.now) c.loop-index.index
    (lent_of c.literal-literal.result) c.literal-literal.ensures)
