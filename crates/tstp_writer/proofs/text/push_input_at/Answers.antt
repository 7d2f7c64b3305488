use Rattle.std.proofs.Common.{sym, ap, ◌∙◌, ◌++◌, append-nil}
use Rattle.std.specs.Prelude.{option_map}
use Rattle.tptp_tree.specs.Shape.{entry_of}
use Rattle.tstp_writer.specs.LineTexts.{shown_text}
use Rattle.tstp_writer.specs.LineTrees.{line_name, input_tree}
use Rattle.tstp_writer.specs.Scripts.{script_in}
use Rattle.tstp_writer.proofs.AboutPrinted.PieceTexts.{added, item_there, item_past}
use Rattle.tstp_writer.proofs.text.push_input_at.Goals as goal

pub returns-in-Some : goal.returns-in-Some
returns-in-Some c =
    added c.push_input.result _ _ _ _
    (sym (ap (λ o. shown_text (option_map (input_tree (script_in c.args.script) (line_name c.args.number)) o))
    (item_there entry_of c.args.script.formulas.now c.args.place c.in-Some.annotated.now c.in-Some.ensures.lookup.0 c.in-Some.ensures.lookup.1)))
    c.push_input.ensures

pub returns-in-None : goal.returns-in-None
returns-in-None c =
    sym (ap (λ o. c.args.page.now ++ shown_text (option_map (input_tree (script_in c.args.script) (line_name c.args.number)) o))
    (item_past entry_of c.args.script.formulas.now c.args.place c.in-None.ensures.lookup.0) ∙ append-nil c.args.page.now)
