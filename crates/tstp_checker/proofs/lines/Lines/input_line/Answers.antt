use Rattle.std.proofs.Common.{ap, sym, ◌∙◌}
use Rattle.tptp_source.specs.SourceShape.{source_of}
use Rattle.clausal_form.specs.DerivationCauses.{taken}
use Rattle.tstp_checker.specs.Lines.{line_meant, setting_in, taken_in}
use Rattle.tstp_checker.proofs.AboutVerdicts.FormulaLineLemmas.{input-taken}
use Rattle.tstp_checker.proofs.lines.Lines.input_line.Goals as goal

pub returns-in-Some-clause-verdict : goal.returns-in-Some-clause-verdict
returns-in-Some-clause-verdict c =
    input-taken (setting_in c.args.self.now) (taken_in c.args.self.now) (line_meant c.args.entry.now c.args.source.now) (source_of c.args.source.now)
    c.in-Some.place c.in-Some.ensures
    ∙ ap taken (sym c.formula_line.ensures)
