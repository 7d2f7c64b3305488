use Rattle.std.proofs.Common.{ap, ◌∙◌, ◌++◌}
use Rattle.tstp_writer.proofs.AboutPrinted.PieceTexts.{three_added, three_joined}
use Rattle.tstp_writer.proofs.sources.push_inference.Goals as goal

pub returns : goal.returns
returns c =
    three_added c.bytes-7.result _ _ _ _ _ _ _
    (three_joined _ _ _ _ _ _ _
    (three_joined _ _ _ _ _ _ _
    (three_joined _ _ _ _ _ _ _ c.in_ok-bytes.ensures.added
    (c.in_ok-bytes-2.ensures.added ∙ ap (λ w. c.bytes.new.self ++ w) c.rule_word.ensures) c.in_ok-bytes-3.ensures.added)
    (c.in_ok-bytes-4.ensures.added ∙ ap (λ w. c.bytes-3.new.self ++ w) c.status_word.ensures) c.in_ok-bytes-5.ensures.added)
    c.in_ok-push_items.ensures c.in_ok-bytes-6.ensures.added)
    c.in_ok-push_parents.ensures c.bytes-7.ensures.added
