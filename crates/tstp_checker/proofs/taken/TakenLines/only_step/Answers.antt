use Rattle.std.proofs.Common.{ℕ, ap, ◌∙◌}
use Rattle.std.specs.Prelude.{option_map, option_and_then, slice_get}
use Rattle.kernel_steps.specs.declared.step.Line.{Line}
use Rattle.clausal_form.specs.DerivationLine.{NamedLine}
use Rattle.tstp_checker.specs.Taken.{taken_of}
use Rattle.tstp_checker.proofs.AboutDerivations.TakenLemmas.{step-there}
use Rattle.tstp_checker.proofs.taken.TakenLines.only_step.Goals as goal

pub returns-in_err-line : goal.returns-in_err-line
returns-in_err-line c =
    rw c.from_residual-in_err-line.ensures
    (ap (option_map (λ (l : Line). l.step)) c.in_err-line.ensures ∙ step-there c.args.self.now c.in_ok-place.place
    ∙ ap (option_and_then (λ (n : ℕ). option_map (λ (l : NamedLine). (l.line).step) (slice_get (taken_of c.args.self.now).lines n))) c.in_ok-place.ensures)

pub returns : goal.returns
returns c =
    ap (option_map (λ (l : Line). l.step)) c.in_ok-line.ensures ∙ step-there c.args.self.now c.in_ok-place.place
    ∙ ap (option_and_then (λ (n : ℕ). option_map (λ (l : NamedLine). (l.line).step) (slice_get (taken_of c.args.self.now).lines n))) c.in_ok-place.ensures
