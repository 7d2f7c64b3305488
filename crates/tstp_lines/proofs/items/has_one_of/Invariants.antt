use Rattle.std.proofs.Common.{◌≡◌, drop, map}
use Rattle.std.specs.List.{list_any}
use Rattle.tptp_source.specs.Shape.{tree_of}
use Rattle.clausal_form.specs.DerivationItems.{has_word}
use Rattle.tstp_lines.specs.Items.{item_word}
use Rattle.tstp_lines.proofs.items.has_one_of.Given as goal

abbrev pub invariant-loop-word : goal.invariant-loop-word
invariant-loop-word l =
    list_any (λ w. has_word w (tree_of l.item)) (map item_word (drop l.word-index l.words))
    ≡ list_any (λ w. has_word w (tree_of l.item)) (map item_word l.words)
