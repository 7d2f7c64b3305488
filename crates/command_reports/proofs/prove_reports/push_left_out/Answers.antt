use Rattle.command_reports.proofs.AboutPages.PageLemmas.{five_added}
use Rattle.command_reports.proofs.prove_reports.push_left_out.Goals as goal

pub returns : goal.returns
returns c =
    five_added c.bytes-3.result _ _ _ _ _ _ _ _ _ _ _ c.in_ok-bytes.ensures.added c.in_ok-number.ensures.added c.in_ok-bytes-2.ensures.added
    c.in_ok-number-2.ensures.added c.bytes-3.ensures.added
