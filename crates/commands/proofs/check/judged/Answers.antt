use Rattle.std.proofs.Common.{subst}
use Rattle.tstp_checker.specs.Checking.{IsCheckFault}
use Rattle.commands.proofs.AboutOutcomes.TheoremLemmas.{refuted-theorem}
use Rattle.commands.proofs.AboutPages.AnswerLemmas.{accepted-judged, refused-judged}
use Rattle.commands.proofs.check.judged.Goals as goal

pub returns-in-Ok : goal.returns-in-Ok
returns-in-Ok c =
    accepted-judged c.accepted.result _ c.args.formed.now.problem.formulas c.args.text.now c.in-Ok.field-0.lines c.in-Ok.ensures.accepted
    c.in-Ok.ensures.refuted (refuted-theorem c.args.formed.now.problem.formulas c.requires.closed c.in-Ok.ensures.refuted)
    (λ report h. (h.0, h.1)) c.accepted.ensures

pub returns-in-Err-Refused : goal.returns-in-Err-Refused
returns-in-Err-Refused c =
    refused-judged c.refused.result _ c.args.formed.now.problem.formulas c.args.text.now c.in-Err-Refused.line c.in-Err-Refused.cause
    (subst (IsCheckFault c.args.formed.now.problem.formulas c.args.text.now) c.in-Err-Refused.field-0-is c.in-Err-Refused.ensures.refused)
    (λ report h. (h.0, h.1)) c.refused.ensures
