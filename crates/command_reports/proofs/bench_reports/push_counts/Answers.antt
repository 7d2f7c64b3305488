use Rattle.std.proofs.Common.{ap, ◌++◌, ◌∙◌}
use Rattle.std.specs.Fmt.{decimal}
use Rattle.command_reports.proofs.AboutPages.PageLemmas.{five_added}
use Rattle.command_reports.proofs.bench_reports.push_counts.Goals as goal

pub returns : goal.returns
returns c =
    five_added c.bytes-3.result _ _ _ _ _ _ _ _ _ _ _ c.in_ok-bytes.ensures.added c.in_ok-number.ensures.added c.in_ok-bytes-2.ensures.added
    (c.in_ok-number-2.ensures.added ∙ ap (λ n. c.bytes-2.new.self ++ decimal n) c.from.ensures) c.bytes-3.ensures.added
