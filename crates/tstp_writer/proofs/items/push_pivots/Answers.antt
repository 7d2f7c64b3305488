use Rattle.tstp_writer.proofs.AboutPrinted.TextLemmas.{pivots_of_parts}
use Rattle.tstp_writer.proofs.AboutPrinted.PieceTexts.{three_added, added}
use Rattle.tstp_writer.proofs.items.push_pivots.Goals as goal

pub returns : goal.returns
returns c =
    added c.bytes-2.result _ _ _ _ (pivots_of_parts c.args.prefix.now c.args.pivots.now c.requires)
    (three_added c.bytes-2.result _ _ _ _ _ _ _ c.in_ok-bytes.ensures.added c.in_ok-push_signed_names.ensures c.bytes-2.ensures.added)
