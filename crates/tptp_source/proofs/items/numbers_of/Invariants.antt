use Rattle.std.proofs.Common.{◌≡◌, drop, map, Some}
use Rattle.tptp_source.specs.Shape.{tree_of}
use Rattle.tptp_source.specs.Items.{all_numbers}
use Rattle.tptp_source.proofs.AboutParts.ItemLemmas.{joined_numbers}
use Rattle.tptp_source.proofs.items.numbers_of.Given as goal

abbrev pub invariant-loop-term : goal.invariant-loop-term
invariant-loop-term l =
    all_numbers (map tree_of l.term-items) ≡ joined_numbers (Some l.numbers) (all_numbers (map tree_of (drop l.term-index l.term-items)))
