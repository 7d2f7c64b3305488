use Rattle.command_reports.proofs.AboutPages.PageLemmas.{three_added}
use Rattle.command_reports.proofs.ground_reports.push_names.Goals as goal

pub returns : goal.returns
returns c = three_added c.bytes-2.result _ _ _ _ _ _ _ c.in_ok-bytes.ensures.added c.in_ok-number.ensures.added c.bytes-2.ensures.added
