use Rattle.std.proofs.Common.{◌∙◌}
use Rattle.fol_base.specs.Literal.{literal_of}
use Rattle.kernel_steps.specs.declared.step.Step.TheVariants.{Opposite}
use Rattle.tstp_checker.specs.ClauseLines.{opposite_clause}
use Rattle.tstp_checker.specs.Lines.{setting_in, taken_in}
use Rattle.tstp_checker.proofs.AboutVerdicts.ClauseLineLemmas.{opposite-gives, clause-equal, verdict-as}
use Rattle.tstp_checker.proofs.lines.Lines.opposite_line.Goals as goal

pub returns-clause-verdict : goal.returns-clause-verdict
returns-clause-verdict c = λ t items parents l.
    verdict-as _ _ _
    (opposite-gives (setting_in c.args.self.now) (taken_in c.args.self.now) t c.args.name.now c.in-Some.number (literal_of c.in-Some-atom_named.literal.now)
    c.in-Some.ensures.value c.in-Some-atom_named.ensures
    ∙ clause-equal (setting_in c.args.self.now) (taken_in c.args.self.now) t items parents c.args.parts (Opposite c.in-Some.number)
    (opposite_clause c.in-Some.number (literal_of c.in-Some-atom_named.literal.now)) l c.if-not-is_opposite.ensures)
    c.line_by.ensures.verdict
