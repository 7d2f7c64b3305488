use Rattle.std.proofs.Common.{map}
use Rattle.fol_base.specs.Term.{tree_of}
use Rattle.tstp_writer.proofs.AboutPrinted.TextLemmas.{bind-text}
use Rattle.tstp_writer.proofs.AboutPrinted.PieceTexts.{three_added, added}
use Rattle.tstp_writer.proofs.items.push_bind.Goals as goal

pub returns : goal.returns
returns c =
    added c.bytes-2.result _ _ _ _ (bind-text c.args.symbols.now (map tree_of c.args.terms.now))
    (three_added c.bytes-2.result _ _ _ _ _ _ _ c.in_ok-bytes.ensures.added c.in_ok-push_terms.ensures c.bytes-2.ensures.added)
