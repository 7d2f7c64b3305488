use Rattle.std.proofs.Common.{◌≡◌, ◌++◌, map, take}
use Rattle.fol_base.specs.Term.{tree_of}
use Rattle.fol_base.proofs.place.push_copies.Given as goal

abbrev pub invariant-loop-item : goal.invariant-loop-item
invariant-loop-item l =
    map tree_of l.made.items ≡ map tree_of l.initial.made.items ++ map tree_of (take l.item-index l.items)
