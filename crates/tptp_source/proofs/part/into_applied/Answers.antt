use Rattle.std.proofs.Common.{sym, ◌∙◌, ap, Some}
use Rattle.tptp_source.specs.Shape.{tree_of}
use Rattle.tptp_source.specs.TermSources.{applied_in, Applied}
use Rattle.tptp_source.proofs.AboutParts.PartTerms.{list-trees}
use Rattle.tptp_source.proofs.part.into_applied.Goals as goal

pub returns-in-Word : goal.returns-in-Word
returns-in-Word c =
    ap (λ xs. Some (let p : Applied = (c.in-Word.word, xs) in p)) (sym (list-trees c.in-Word.arguments))
    ∙ ap (λ t. applied_in (tree_of t)) (sym c.in-Word.is)
