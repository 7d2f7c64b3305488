use Rattle.std.proofs.Common.{Bool, ap, ◌∙◌}
use Rattle.std.specs.Prelude.{if◌then◌else◌}
use Rattle.fol_base.specs.Literal.{clause_of}
use Rattle.kernel_steps.specs.FromTrees.{line_of}
use Rattle.clausal_form.specs.DerivationCauses.{new_symbol, refused, taken}
use Rattle.tstp_checker.proofs.AboutVerdicts.KernelLineLemmas.{line-back}
use Rattle.tstp_checker.proofs.clause_lines.line_by.Goals as goal

pub returns-clause-verdict : goal.returns-clause-verdict
returns-clause-verdict c =
    ap (λ (b : Bool). if b then refused new_symbol else taken (line_of c.args.step (clause_of c.args.clause))) c.if-has_new_symbol.false
    ∙ ap taken (line-back c.args.step c.args.clause)
