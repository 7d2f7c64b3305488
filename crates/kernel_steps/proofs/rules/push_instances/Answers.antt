use Rattle.fol_base.specs.Clause.{literal_instance}
use Rattle.fol_base.specs.Literal.{literal_of}
use Rattle.fol_base.specs.Lent.{lent_of}
use Rattle.kernel_steps.proofs.AboutCalls.LoopLemmas.{pushed_more}
use Rattle.kernel_steps.proofs.rules.push_instances.Goals as goal

pub loop-index-preserved : goal.loop-index-preserved
loop-index-preserved g c =
    pushed_more literal_of (literal_instance (g.S.LendsTerms.meaning c.args.parent.now.bind.now)) (g.L.LendsLiterals.meaning c.args.parent.now.literals.now)
    c.args.made.now.items c.loop-index.made.items c.push.new.self.items c.args.start c.loop-index.index c.in_ok-literal_instance.field-0
    (lent_of c.literal-literal.result) c.literal-literal.ensures c.loop-index.auto.index c.in_ok-push.ensures.items
    c.in_ok-literal_instance.ensures c.loop-index.invariant
