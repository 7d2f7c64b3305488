use Rattle.command_reports.proofs.AboutPages.PageLemmas.{five_added}
use Rattle.command_reports.proofs.report_lines.push_output.Goals as goal

pub returns : goal.returns
returns c =
    five_added c.push_for.result _ _ _ _ _ _ _ _ _ _ _ c.in_ok-bytes.ensures.added c.in_ok-bytes-2.ensures.added c.in_ok-bytes-3.ensures.added c.in_ok-bytes-4.ensures.added
    c.push_for.ensures
