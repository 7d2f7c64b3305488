use Rattle.std.proofs.Common.{ap, sym, ◌∙◌}
use Rattle.tptp_source.specs.Shape.{tree_of}
use Rattle.clausal_form.specs.DerivationItems.{arguments}
use Rattle.tstp_lines.proofs.AboutReadings.BindingLemmas.{listed-generals}
use Rattle.tstp_lines.proofs.items.arguments.Goals as goal

pub returns-in-Word : goal.returns-in-Word
returns-in-Word c =
    c.as_slice.ensures ∙ sym (listed-generals c.in-Word.arguments) ∙ sym (ap (λ u. arguments (tree_of u)) c.in-Word.is)
