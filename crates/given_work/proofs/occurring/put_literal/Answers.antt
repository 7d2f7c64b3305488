use Rattle.fol_base.specs.Lent.{lent_of}
use Rattle.given_work.proofs.AboutMeeting.OccurringLemmas.{kept-then, side-kept}
use Rattle.given_work.proofs.occurring.put_literal.Goals as goal

pub returns-clause-left : goal.returns-clause-left
returns-clause-left c =
    side-kept c.args.number c.put_side.new.terms c.put_side-2.new.terms (lent_of c.args.literal).left c.in_ok-put_side-2.ensures.kept
    c.in_ok-put_side.ensures.put

pub returns-clause-kept : goal.returns-clause-kept
returns-clause-kept c =
    kept-then c.args.terms.now c.put_side.new.terms c.put_side-2.new.terms c.in_ok-put_side.ensures.kept c.in_ok-put_side-2.ensures.kept
