use Rattle.std.proofs.Common.{◌∷◌, map}
use Rattle.std.specs.Prelude.{codes}
use Rattle.tptp_source.specs.Shape.{tree_of}
use Rattle.clausal_form.specs.DerivationItems.{have_words, items_with}
use Rattle.tstp_lines.specs.Items.{item_word}
use Rattle.tstp_lines.proofs.AboutItems.ItemLemmas.{Asked}
use Rattle.tstp_lines.proofs.items.have_words.Given as goal

abbrev pub invariant-loop-item : goal.invariant-loop-item
invariant-loop-item l =
    Asked l.left (codes "status" ∷ map item_word l.words) l.items l.item-index
    (have_words (map item_word l.words) (items_with (codes "status" ∷ map item_word l.words) (map tree_of l.items)))
