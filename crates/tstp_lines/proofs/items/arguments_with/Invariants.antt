use Rattle.std.proofs.Common.{◌≡◌, ◌++◌, map}
use Rattle.tptp_source.specs.Shape.{tree_of}
use Rattle.clausal_form.specs.DerivationItems.{arguments, items_with}
use Rattle.tstp_lines.specs.Items.{item_word, terms_lent}
use Rattle.tstp_lines.proofs.AboutItems.ItemLemmas.{row_left}
use Rattle.tstp_lines.proofs.items.arguments_with.Given as goal

abbrev pub invariant-loop-item : goal.invariant-loop-item
invariant-loop-item l =
    map terms_lent (l.row).items ++ map arguments (row_left (map item_word l.words) l.items l.item-index)
    ≡ map arguments (items_with (map item_word l.words) (map tree_of l.items))
