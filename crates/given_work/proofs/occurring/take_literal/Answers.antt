use Rattle.given_work.proofs.AboutMeeting.OccurringLemmas.{others-then}
use Rattle.given_work.proofs.occurring.take_literal.Goals as goal

pub returns : goal.returns
returns c =
    others-then c.args.number c.args.terms.now c.take_term.new.terms c.take_term-2.new.terms c.take_term.ensures c.take_term-2.ensures
