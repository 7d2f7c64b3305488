use Rattle.std.proofs.Common.{sym, ap, ◌∙◌}
use Rattle.tptp_tree.specs.Shape.{formula_of}
use Rattle.clausal_form.specs.DerivationClause.{literals_of}
use Rattle.tstp_lines.proofs.AboutReadings.WrittenLemmas.{listed-formulas}
use Rattle.tstp_lines.proofs.written.literals_of.Goals as goal

pub returns-in-Or : goal.returns-in-Or
returns-in-Or c =
    c.as_slice.ensures ∙ sym (listed-formulas c.in-Or.literals) ∙ sym (ap (λ f. literals_of (formula_of f)) c.in-Or.is)
