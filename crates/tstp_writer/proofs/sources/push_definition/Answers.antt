use Rattle.tstp_writer.proofs.AboutPrinted.PieceTexts.{three_added, three_joined}
use Rattle.tstp_writer.proofs.sources.push_definition.Goals as goal

pub returns : goal.returns
returns c =
    three_added c.bytes-4.result _ _ _ _ _ _ _
    (three_joined _ _ _ _ _ _ _ c.in_ok-bytes.ensures.added c.in_ok-bytes-2.ensures.added c.in_ok-bytes-3.ensures.added)
    c.in_ok-push_introduced_name.ensures c.bytes-4.ensures.added
