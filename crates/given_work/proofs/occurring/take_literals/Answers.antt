use Rattle.given_work.proofs.AboutMeeting.OccurringLemmas.{others-then}
use Rattle.given_work.proofs.occurring.take_literals.Goals as goal

pub loop-index-preserved : goal.loop-index-preserved
loop-index-preserved c =
    others-then c.args.number c.args.terms.now c.loop-index.terms c.take_literal.new.terms c.loop-index.invariant c.take_literal.ensures
