use Rattle.std.proofs.lemmas.Result.{IfOk-weaker}
use Rattle.commands.proofs.AboutPages.AnswerLemmas.{formed-reports, stop-reports}
use Rattle.commands.proofs.model.model_report.Goals as goal

pub returns-in-Ok : goal.returns-in-Ok
returns-in-Ok g c =
    IfOk-weaker c.searched_report.result _ _
    (λ report h. formed-reports _ _ _ c.in-Ok.formed report.status report.text c.in-Ok.ensures.formed h)
    c.searched_report.ensures

pub returns-in-Err : goal.returns-in-Err
returns-in-Err g c =
    IfOk-weaker c.report.result _ _
    (λ report h. stop-reports _ _ _ c.in-Err.stop report.status report.text c.in-Err.ensures.stopped h)
    c.report.ensures
