use Rattle.std.proofs.Common.{ap, sym, ◌∙◌}
use Rattle.tptp_source.specs.Shape.{tree_of}
use Rattle.clausal_form.specs.DerivationItems.{is_plain}
use Rattle.tstp_lines.proofs.AboutItems.ItemLemmas.{not-plain}
use Rattle.tstp_lines.proofs.items.is_plain.Goals as goal

pub returns-else-is_empty : goal.returns-else-is_empty
returns-else-is_empty c =
    c.if-is_empty.false ∙ not-plain c.args.word.now c.in-Word.name c.in-Word.arguments c.if-is_empty.ensures.1
    ∙ sym (ap (λ u. is_plain c.args.word.now (tree_of u)) c.in-Word.is)
