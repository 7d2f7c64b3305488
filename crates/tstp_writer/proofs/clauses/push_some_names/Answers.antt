use Rattle.tstp_writer.proofs.AboutPrinted.TextLemmas.{names_of_parts}
use Rattle.tstp_writer.proofs.AboutPrinted.PieceTexts.{two_added, added}
use Rattle.tstp_writer.proofs.clauses.push_some_names.Goals as goal

pub returns : goal.returns
returns c =
    added c.push_more_names.result _ _ _ _ (names_of_parts c.args.prefix.now c.args.first c.args.rest.now c.requires)
    (two_added c.push_more_names.result _ _ _ _ _ c.in_ok-push_signed_name.ensures c.push_more_names.ensures)
