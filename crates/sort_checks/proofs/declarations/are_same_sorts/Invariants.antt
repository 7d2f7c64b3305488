use Rattle.std.proofs.Common.{◌≡◌, length, map, drop}
use lib.Pointwise.{pointwise}
use Rattle.typed_tree.specs.Shape.{sort_of}
use Rattle.typed_tree.specs.Sorts.{same_sort}
use Rattle.sort_checks.proofs.declarations.are_same_sorts.Given as goal

abbrev pub invariant-loop-first : goal.invariant-loop-first
invariant-loop-first l =
    pointwise same_sort (map sort_of (drop (length l.yielded) l.left)) (map sort_of (drop (length l.yielded) l.right))
    ≡ pointwise same_sort (map sort_of l.left) (map sort_of l.right)
