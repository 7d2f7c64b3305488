use Rattle.std.proofs.Common.{false, refl}
use Rattle.tptp_tree.specs.Shape.{entry_of}
use Rattle.kernel_steps.specs.declared.step.Step.TheVariants.{Negate}
use Rattle.tptp_tree.specs.Entries.{AnnotatedTree}
use Rattle.tptp_tree.specs.Formula.{negation}
use Rattle.tptp_tree.specs.declared.role.Role.TheVariants.{NegatedConjecture}
use Rattle.tstp_writer.specs.LineTrees.{line_name, step_source}
use Rattle.tstp_writer.specs.Scripts.{script_in}
use Rattle.tstp_writer.proofs.AboutPrinted.TextLemmas.{five_added, line_of_parts}
use Rattle.tstp_writer.proofs.AboutPrinted.PieceTexts.{added}
use Rattle.tstp_writer.proofs.lines.push_negate.Goals as goal

pub returns : goal.returns
returns c =
    let a : AnnotatedTree = entry_of c.args.annotated.now in
    added c.bytes-2.result _ _ _ _
    (line_of_parts
    (record { name = line_name c.args.number; role = NegatedConjecture; is_clause = false; formula = negation a.formula })
    (step_source (script_in c.args.script) c.args.layout.now (Negate c.args.place)) c.args.number refl)
    (five_added c.bytes-2.result _ _ _ _ _ _ _ _ _ _ _ c.in_ok-push_head.ensures c.in_ok-push_negation.ensures c.in_ok-bytes.ensures.added
    c.in_ok-push_source.ensures c.bytes-2.ensures.added)
