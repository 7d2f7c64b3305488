use Rattle.std.proofs.Common.{subst}
use Rattle.std.proofs.lemmas.Result.{IfOk-weaker}
use Rattle.tstp_checker.specs.Checking.{IsCheckFault}
use Rattle.command_reports.specs.GroundReports.{told_wrong}
use Rattle.commands.proofs.ground.listing_report.Goals as goal

pub returns-in-Err-Refused : goal.returns-in-Err-Refused
returns-in-Err-Refused c =
    IfOk-weaker c.refused.result _ _
    (λ report h.
    told_wrong c.in-Err-Refused.line c.in-Err-Refused.cause
    (subst (IsCheckFault c.args.formed.now.problem.formulas c.args.text.now) c.in-Err-Refused.field-0-is c.in-Err-Refused.ensures.refused) h.0 h.1)
    c.refused.ensures
