use Rattle.std.proofs.Common.{sym, ◌∙◌, ap, Some}
use Rattle.tptp_source.specs.Shape.{tree_of}
use Rattle.tptp_source.specs.TermSources.{items_in}
use Rattle.tptp_source.proofs.AboutParts.PartTerms.{list-trees}
use Rattle.tptp_source.proofs.part.into_items.Goals as goal

pub returns-in-Listed : goal.returns-in-Listed
returns-in-Listed c =
    ap (λ xs. Some xs) (sym (list-trees c.in-Listed.items)) ∙ ap (λ t. items_in (tree_of t)) (sym c.in-Listed.is)
