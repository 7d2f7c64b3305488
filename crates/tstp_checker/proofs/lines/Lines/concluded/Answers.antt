use Rattle.std.proofs.Common.{ap, ◌∙◌}
use Rattle.kernel_steps.specs.Conclusion.{verdict}
use Rattle.kernel_steps.specs.Derivation.{line_parents}
use Rattle.clausal_form.specs.DerivationCauses.{concluded}
use Rattle.tstp_checker.proofs.AboutDerivations.TakenLemmas.{lines-of}
use Rattle.tstp_checker.proofs.lines.Lines.concluded.Goals as goal

pub returns-in-Ok : goal.returns-in-Ok
returns-in-Ok c =
    ap (λ ls. verdict c.args.step.now (line_parents ls)) (lines-of c.args.self.now.taken.names c.args.self.now.taken.lines) ∙ c.in-Ok.ensures

pub returns-in-Err-Binding : goal.returns-in-Err-Binding
returns-in-Err-Binding c =
    ap (λ ls. concluded c.args.step.now (verdict c.args.step.now (line_parents ls))) (lines-of c.args.self.now.taken.names c.args.self.now.taken.lines)
    ∙ ap (concluded c.args.step.now) (rw c.in-Err-Binding.field-0-is at c.in-Err-Binding.ensures)

pub returns-in-Err-Rule : goal.returns-in-Err-Rule
returns-in-Err-Rule c =
    ap (λ ls. concluded c.args.step.now (verdict c.args.step.now (line_parents ls))) (lines-of c.args.self.now.taken.names c.args.self.now.taken.lines)
    ∙ ap (concluded c.args.step.now) (rw c.in-Err-Rule.field-0-is at c.in-Err-Rule.ensures)
