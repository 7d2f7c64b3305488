use Rattle.tstp_writer.specs.LineTrees.{cited_tree, negated_tree, derived_tree}
use Rattle.tstp_writer.specs.Scripts.{script_in}
use Rattle.tstp_writer.proofs.AboutPrinted.TextLemmas.{shown_of_parts}
use Rattle.tstp_writer.proofs.AboutPrinted.PieceTexts.{added, three_added}
use Rattle.tstp_writer.proofs.text.push_lines.Goals as goal

pub returns : goal.returns
returns c =
    added c.push_derived.result _ _ _ _
    (shown_of_parts (cited_tree (script_in c.args.script) c.args.layout.now) (negated_tree (script_in c.args.script) c.args.layout.now)
    (derived_tree (script_in c.args.script) c.args.layout.now c.args.lines.now) c.args.layout.now.cited c.args.layout.now.negated c.args.layout.now.numbers)
    (three_added c.push_derived.result _ _ _ _ _ _ _ c.in_ok-push_cited.ensures c.in_ok-push_negated.ensures c.push_derived.ensures)
