use Rattle.std.proofs.Common.{ap, ◌∙◌}
use Rattle.std.specs.Prelude.{option_map}
use Rattle.fol_base.specs.Literal.{clause_of}
use Rattle.kernel_steps.specs.declared.step.Line.{Line}
use Rattle.tstp_checker.specs.Taken.{clause_at}
use Rattle.tstp_checker.proofs.AboutDerivations.TakenLemmas.{component-there}
use Rattle.tstp_checker.proofs.taken.TakenLines.component.Goals as goal

pub returns-in_err-place : goal.returns-in_err-place
returns-in_err-place c =
    rw c.from_residual.ensures (ap (clause_at c.args.self.now.lines) c.in_err-place.ensures ∙ component-there c.args.self.now c.args.name c.requires)

pub returns-in_err-line : goal.returns-in_err-line
returns-in_err-line c =
    rw c.from_residual-in_err-line.ensures
    (ap (option_map (λ (l : Line). clause_of l.clause)) c.in_err-line.ensures ∙ ap (clause_at c.args.self.now.lines) c.in_ok-place.ensures
    ∙ component-there c.args.self.now c.args.name c.requires)

pub returns : goal.returns
returns c =
    ap (option_map (λ (l : Line). clause_of l.clause)) c.in_ok-line.ensures ∙ ap (clause_at c.args.self.now.lines) c.in_ok-place.ensures
    ∙ component-there c.args.self.now c.args.name c.requires
