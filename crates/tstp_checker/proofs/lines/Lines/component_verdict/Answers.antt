use Rattle.std.proofs.Common.{refl, sym, ◌∙◌}
use Rattle.tstp_checker.specs.Lines.{line_meant, setting_in, taken_in}
use Rattle.tstp_checker.proofs.AboutVerdicts.VerdictLemmas.{fresh-name, component-line, component-step}
use Rattle.tstp_checker.proofs.lines.Lines.component_verdict.Goals as goal

pub returns-in-Ok-clause-next : goal.returns-in-Ok-clause-next
returns-in-Ok-clause-next c =
    component-step c.args.self.now.taken.introduced _ c.args.name.now _ _
    (fresh-name c.args.self.now.taken.introduced c.args.name.now c.is_none-is_new.result c.is_old-is_old.result _
    (sym c.is_none-is_new.ensures ∙ c.number.ensures.found) c.is_old-is_old.ensures c.in-Ok.ensures.step.1)
    c.in_ok-number.ensures.names c.in_ok-number.ensures.number c.in-Ok.ensures.step.0

pub returns-after-is_new-clause-verdict : goal.returns-after-is_new-clause-verdict
returns-after-is_new-clause-verdict c = λ source is.
    c.in-Err.ensures.verdict (taken_in c.args.self.now) source
    (component-line (setting_in c.args.self.now) (taken_in c.args.self.now) _ (line_meant c.args.entry.now source) c.args.name.now c.in_ok-number.number
    c.is_none-is_new.result c.is_old-is_old.result is refl c.in_ok-number.ensures.names c.in_ok-number.ensures.number
    (sym c.is_none-is_new.ensures ∙ c.number.ensures.found) c.is_old-is_old.ensures)
