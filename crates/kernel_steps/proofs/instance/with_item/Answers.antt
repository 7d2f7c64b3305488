use Rattle.std.proofs.Common.{◌∙◌}
use Rattle.fol_base.specs.Term.{tree_of}
use Rattle.kernel_steps.specs.Bound.{under}
use Rattle.kernel_steps.proofs.AboutCalls.PushLemmas.{set-pushed_by}
use Rattle.kernel_steps.proofs.instance.with_item.Goals as goal

pub returns : goal.returns
returns g c =
    c.from_vec.ensures
    ∙ set-pushed_by tree_of (λ item. under c.args.is_bound (g.T.LendsTerms.meaning c.args.bind.now) (tree_of item)) c.args.items.now
    _ _ _ _ _ _ c.requires c.in_ok-made.ensures.items c.in_ok-push_under.ensures c.in_ok-push.ensures.items c.in_ok-push_under-2.ensures
