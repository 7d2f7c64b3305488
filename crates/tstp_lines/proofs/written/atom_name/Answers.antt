use Rattle.std.proofs.Common.{sym, ap, ◌∙◌}
use Rattle.tptp_tree.specs.Shape.{formula_of}
use Rattle.clausal_form.specs.DerivationClause.{atom_name}
use Rattle.tstp_lines.proofs.AboutReadings.WrittenLemmas.{no-name}
use Rattle.tstp_lines.proofs.written.atom_name.Goals as goal

pub returns-in_default : goal.returns-in_default
returns-in_default c =
    no-name c.args.names.now c.in-Pred.name c.in-Pred.arguments c.if-is_empty.ensures.1
    ∙ sym (ap (λ f. atom_name c.args.names.now (formula_of f)) c.in-Pred.is)
