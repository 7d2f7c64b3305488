use Rattle.std.proofs.Common.{sym, ◌∙◌}
use Rattle.tstp_writer.proofs.AboutPrinted.TextLemmas.{source_of_columns, source_of_introduction}
use Rattle.tstp_writer.proofs.AboutPrinted.PieceTexts.{added}
use Rattle.tstp_writer.specs.Scripts.{script_in}
use Rattle.tstp_writer.proofs.sources.push_source.Goals as goal

pub returns-then-introduces_name : goal.returns-then-introduces_name
returns-then-introduces_name c =
    added c.push_introduction.result _ _ _ _
    (source_of_introduction (script_in c.args.script) c.args.layout.now c.args.step.now c.requires (sym c.introduces_name.ensures ∙ c.if-introduces_name.true))
    c.push_introduction.ensures

pub returns-else-introduces_name : goal.returns-else-introduces_name
returns-else-introduces_name c =
    added c.push_inference.result _ _ _ _
    (source_of_columns (script_in c.args.script) c.args.layout.now c.args.step.now (sym c.introduces_name.ensures ∙ c.if-introduces_name.false))
    c.push_inference.ensures
