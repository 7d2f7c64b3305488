use Rattle.std.proofs.Common.{ap, ◌++◌, ◌∙◌}
use Rattle.std.specs.Fmt.{decimal}
use Rattle.command_reports.proofs.AboutPages.PageLemmas.{three_added}
use Rattle.command_reports.proofs.model_reports.push_no_model.Goals as goal

pub returns : goal.returns
returns c =
    three_added c.bytes-2.result _ _ _ _ _ _ _ c.in_ok-bytes.ensures.added
    (c.in_ok-number.ensures.added ∙ ap (λ n. c.bytes.new.self ++ decimal n) c.from.ensures) c.bytes-2.ensures.added
