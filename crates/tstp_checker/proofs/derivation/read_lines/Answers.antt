use Rattle.std.proofs.Common.{◌∙◌, subst}
use Rattle.list_lemmas.proofs.Results.{err-passed}
use Rattle.tstp_checker.specs.AcceptedLines.{AreAcceptedLines}
use Rattle.tstp_checker.specs.Checking.{IsCheckFault}
use Rattle.tstp_checker.proofs.AboutDerivations.CheckLemmas.{accepted-refute, accepted-bind}
use Rattle.tstp_checker.proofs.derivation.read_lines.Goals as goal

pub returns-clause-lines : goal.returns-clause-lines
returns-clause-lines c =
    subst (λ fs. AreAcceptedLines fs c.args.text.now c.check_lines.new.lines.taken.lines) (c.in_ok-lines.ensures.problem ∙ c.as_slice.ensures)
    c.in_ok-check_lines.ensures.accepted

pub returns-clause-refutation : goal.returns-clause-refutation
returns-clause-refutation c =
    accepted-refute c.args.problem.now.formulas c.args.text.now c.check_lines.new.lines.taken.lines
    (subst (λ fs. AreAcceptedLines fs c.args.text.now c.check_lines.new.lines.taken.lines) (c.in_ok-lines.ensures.problem ∙ c.as_slice.ensures)
    c.in_ok-check_lines.ensures.accepted)

pub returns-clause-binds : goal.returns-clause-binds
returns-clause-binds c =
    accepted-bind c.args.problem.now.formulas c.args.text.now c.check_lines.new.lines.taken.lines
    (subst (λ fs. AreAcceptedLines fs c.args.text.now c.check_lines.new.lines.taken.lines) (c.in_ok-lines.ensures.problem ∙ c.as_slice.ensures)
    c.in_ok-check_lines.ensures.accepted)

pub returns-in_err-check_lines-clause-refused : goal.returns-in_err-check_lines-clause-refused
returns-in_err-check_lines-clause-refused c =
    err-passed _ _ _ c.from_residual-in_err-check_lines.ensures.1
    (subst (λ fs. IsCheckFault fs c.args.text.now c.in_err-check_lines.field-0.0) (c.in_ok-lines.ensures.problem ∙ c.as_slice.ensures)
    c.in_err-check_lines.ensures.refused)
