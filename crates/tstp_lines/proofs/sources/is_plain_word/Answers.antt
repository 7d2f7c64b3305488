use Rattle.std.proofs.Common.{ap, sym, ◌∙◌}
use Rattle.std.specs.Prelude.{is_some}
use Rattle.tptp_source.specs.Shape.{tree_of}
use Rattle.clausal_form.specs.DerivationItems.{plain_word}
use Rattle.tstp_lines.proofs.AboutItems.ItemLemmas.{word-plain}
use Rattle.tstp_lines.proofs.sources.is_plain_word.Goals as goal

pub returns-in-Word : goal.returns-in-Word
returns-in-Word c =
    word-plain c.in-Word.field-0 c.in-Word.arguments c.is_empty.result c.is_empty.ensures.0 c.is_empty.ensures.1
    ∙ sym (ap (λ u. is_some (plain_word (tree_of u))) c.in-Word.is)
