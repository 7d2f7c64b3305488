use Rattle.std.proofs.Common.{sym, ap, ◌∙◌, ◌++◌, append-nil}
use Rattle.std.specs.Prelude.{option_map}
use Rattle.tptp_tree.specs.Shape.{entry_of}
use Rattle.tstp_writer.specs.LineTexts.{shown_text}
use Rattle.tstp_writer.specs.LineTrees.{negated_name, negate_tree}
use Rattle.tstp_writer.specs.Scripts.{script_in}
use Rattle.tstp_writer.proofs.AboutPrinted.PieceTexts.{item_past}
use Rattle.tstp_writer.proofs.text.push_negated_at.Goals as goal

pub returns-in-None : goal.returns-in-None
returns-in-None c =
    sym (ap (λ o. c.args.page.now ++ shown_text (option_map (negate_tree (script_in c.args.script) c.args.layout.now (negated_name c.args.layout.now c.args.place) c.args.place) o))
    (item_past entry_of c.args.script.formulas.now c.args.place c.in-None.ensures.lookup.0) ∙ append-nil c.args.page.now)
