use Rattle.clausal_form.specs.DerivationItems.{introduced_in}
use Rattle.tstp_lines.proofs.AboutItems.ItemLemmas.{all-starts, all-none, all-more, all-end}
use Rattle.tstp_lines.proofs.steps.all_pivots.Goals as goal

pub loop-term-init : goal.loop-term-init
loop-term-init c = all-starts (introduced_in c.args.names.now) c.args.terms.now _ c.new-pivots.ensures

pub returns-in-None : goal.returns-in-None
returns-in-None c =
    all-none (introduced_in c.args.names.now) c.args.terms.now c.loop-term.term-index c.term-item.result _ _ c.loop-term-test.true c.term-item.is
    c.in-None.ensures c.loop-term.invariant

pub loop-term-preserved : goal.loop-term-preserved
loop-term-preserved c =
    all-more (introduced_in c.args.names.now) c.args.terms.now c.loop-term.term-index c.term-item.result _ _ _ _ c.loop-term-test.true c.term-item.is
    c.in-Some.ensures c.in_ok-push-in-Some.ensures.ok c.loop-term.invariant

pub returns : goal.returns
returns c = all-end (introduced_in c.args.names.now) c.args.terms.now c.loop-term.term-index _ _ c.loop-term-test.false c.loop-term.invariant
