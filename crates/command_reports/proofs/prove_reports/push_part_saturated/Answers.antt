use Rattle.command_reports.proofs.AboutPages.PageLemmas.{five_added}
use Rattle.command_reports.proofs.prove_reports.push_part_saturated.Goals as goal

pub returns : goal.returns
returns c =
    five_added c.push_output-2.result _ _ _ _ _ _ _ _ _ _ _ c.in_ok-push_status.ensures c.in_ok-push_left_out.ensures c.in_ok-push_output.ensures
    c.in_ok-bytes.ensures.added c.push_output-2.ensures
