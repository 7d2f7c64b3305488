use Rattle.command_reports.proofs.AboutPages.PageLemmas.{three_added}
use Rattle.command_reports.proofs.report_lines.push_status.Goals as goal

pub returns : goal.returns
returns c = three_added c.push_for.result _ _ _ _ _ _ _ c.in_ok-bytes.ensures.added c.in_ok-bytes-2.ensures.added c.push_for.ensures
