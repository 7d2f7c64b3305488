use Rattle.std.proofs.Common.{arith}
use Rattle.fol_base.specs.Lent.{lent_of}
use Rattle.given_work.proofs.AboutMeeting.OccurringLemmas.{kept-then, literals-all, literals-more}
use Rattle.given_work.proofs.occurring.put_literals.Goals as goal

pub loop-index-init : goal.loop-index-init
loop-index-init c = ((λ i low. absurd (omega (arith, low))), (λ e there. there))

pub loop-index-preserved : goal.loop-index-preserved
loop-index-preserved c = (
  literals-more c.args.number c.loop-index.index c.loop-index.terms c.put_literal.new.terms c.args.literals.now (lent_of c.literal.result)
      c.literal.ensures c.in_ok-put_literal.ensures.kept c.in_ok-put_literal.ensures.left c.in_ok-put_literal.ensures.right c.loop-index.invariant.0,
  kept-then c.args.terms.now c.loop-index.terms c.put_literal.new.terms c.loop-index.invariant.1 c.in_ok-put_literal.ensures.kept,
)

pub returns-clause-put : goal.returns-clause-put
returns-clause-put c =
    literals-all c.args.number c.loop-index.index c.loop-index.terms c.args.literals.now (omega arith) c.loop-index.invariant.0
