use Rattle.std.proofs.Common.{Bool, ap, sym}
use Rattle.std.specs.Prelude.{not, if◌then◌else◌}
use Rattle.fol_base.specs.Literal.{clause_of}
use Rattle.clausal_form.specs.DerivationCauses.{conclusion, refused}
use Rattle.tstp_checker.proofs.AboutVerdicts.ClauseLineLemmas.{line_unless, same-so, verdict-as}
use Rattle.tstp_checker.proofs.rule_lines.line_if_same.Goals as goal

pub returns-then-not-same_clause-clause-verdict : goal.returns-then-not-same_clause-clause-verdict
returns-then-not-same_clause-clause-verdict c =
    ap (λ (b : Bool). if not b then refused conclusion else line_unless c.args.step (clause_of c.args.concluded.now) c.args.has_new_symbol)
    (sym c.if-not-same_clause.ensures)

pub returns-clause-verdict : goal.returns-clause-verdict
returns-clause-verdict c =
    verdict-as _ _ _
    (same-so c.args.step (clause_of c.args.concluded.now) (clause_of c.args.clause) c.args.has_new_symbol c.if-not-same_clause.ensures)
    c.line_by.ensures.verdict
