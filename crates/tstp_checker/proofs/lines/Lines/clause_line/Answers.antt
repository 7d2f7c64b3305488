use Rattle.std.proofs.Common.{ap}
use Rattle.clausal_form.specs.DerivationCauses.{given_by, compared}
use Rattle.tstp_checker.specs.Lines.{setting_in, taken_in}
use Rattle.tstp_lines.specs.Steps.{kind_meant}
use Rattle.tstp_checker.proofs.AboutVerdicts.ClauseLineLemmas.{verdict-as}
use Rattle.tstp_checker.proofs.AboutVerdicts.VerdictLemmas.{given-rest}
use Rattle.tstp_checker.proofs.lines.Lines.clause_line.Goals as goal

pub returns-in-Clausify-clause-verdict : goal.returns-in-Clausify-clause-verdict
returns-in-Clausify-clause-verdict c = λ t same l.
    verdict-as _ _ _
    (ap (λ k. compared (setting_in c.args.self.now) (taken_in c.args.self.now) t (given_by (setting_in c.args.self.now) (taken_in c.args.self.now) t (kind_meant k)))
    c.in-Clausify.is)
    (c.clausify_line.ensures.verdict t l)

pub returns-in-Opposite-clause-verdict : goal.returns-in-Opposite-clause-verdict
returns-in-Opposite-clause-verdict c = λ t same l.
    verdict-as _ _ _
    (ap (λ k. compared (setting_in c.args.self.now) (taken_in c.args.self.now) t (given_by (setting_in c.args.self.now) (taken_in c.args.self.now) t (kind_meant k)))
    c.in-Opposite.is)
    (c.opposite_line.ensures.verdict t _ _ l)

pub returns-in_default : goal.returns-in_default
returns-in_default c = record {
  verdict = λ t same l.
      verdict-as _ _ _
      (ap (compared (setting_in c.args.self.now) (taken_in c.args.self.now) t)
      (given-rest (setting_in c.args.self.now) (taken_in c.args.self.now) t c.args.kind c.requires.no_formula c.requires.no_name
      c.in_default.not-Clausify c.in_default.not-Opposite))
      (c.rule_line.ensures.verdict t same l);
  step = c.rule_line.ensures.step;
}
