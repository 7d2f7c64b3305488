use Rattle.command_reports.proofs.AboutPages.PageLemmas.{four_added}
use Rattle.command_reports.proofs.report_lines.push_printed.Goals as goal

pub returns : goal.returns
returns c =
    four_added c.push_output-2.result _ _ _ _ _ _ _ _ _ c.in_ok-push_status.ensures c.in_ok-push_output.ensures c.in_ok-bytes.ensures.added c.push_output-2.ensures
