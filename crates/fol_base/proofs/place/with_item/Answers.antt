use Rattle.std.proofs.Common.{◌∙◌}
use Rattle.fol_base.proofs.ListLemmas.{set-pushed}
use Rattle.fol_base.specs.Term.{tree_of}
use Rattle.fol_base.proofs.place.with_item.Goals as goal

pub returns : goal.returns
returns c =
    c.from_vec.ensures
    ∙ set-pushed tree_of _ _ _ _ _ _ _ c.requires c.in_ok-made.ensures.items c.in_ok-push_copies.ensures c.in_ok-push.ensures.items
    c.in_ok-push_copies-2.ensures
