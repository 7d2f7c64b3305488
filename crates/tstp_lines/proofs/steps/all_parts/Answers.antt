use Rattle.std.proofs.Common.{sym, ◌∙◌}
use Rattle.clausal_form.specs.DerivationItems.{numbers_in}
use Rattle.tstp_lines.proofs.AboutItems.ItemLemmas.{all-starts, all-none, all-more, all-end}
use Rattle.tstp_lines.proofs.steps.all_parts.Goals as goal

pub loop-list-init : goal.loop-list-init
loop-list-init c = all-starts numbers_in c.args.lists.now _ c.new-parts.ensures

pub returns-in-None : goal.returns-in-None
returns-in-None c =
    all-none numbers_in c.args.lists.now c.loop-list.list-index c.list-item.result _ _ c.loop-list-test.true c.list-item.is
    (sym c.in-None.is ∙ c.in_ok-read.ensures) c.loop-list.invariant

pub loop-list-preserved : goal.loop-list-preserved
loop-list-preserved c =
    all-more numbers_in c.args.lists.now c.loop-list.list-index c.list-item.result _ _ _ _ c.loop-list-test.true c.list-item.is
    (sym c.in-Some.is ∙ c.in_ok-read.ensures) c.in_ok-push-in-Some.ensures.ok c.loop-list.invariant

pub returns : goal.returns
returns c = all-end numbers_in c.args.lists.now c.loop-list.list-index _ _ c.loop-list-test.false c.loop-list.invariant
