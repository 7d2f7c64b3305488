use Rattle.std.proofs.Common.{◌≡◌, ◌+◌, ◌*◌, map, drop}
use Rattle.fol_base.specs.Tree.{tree_size, trees_size, trees_of}
use Rattle.fol_base.specs.Term.{tree_of}
use Rattle.unifier.specs.Clashing.{clash_in}
use Rattle.unifier.proofs.clash.+clash.Given as goal

abbrev pub decreases-clash : goal.decreases-clash
decreases-clash l = 2 * tree_size (tree_of l.left.now)

abbrev pub decreases-clash_in : goal.decreases-clash_in
decreases-clash_in l = 2 * trees_size (trees_of (map tree_of l.left.now)) + 1

abbrev pub invariant-clash_in-loop-index : goal.invariant-clash_in-loop-index
invariant-clash_in-loop-index l =
    clash_in (trees_of (map tree_of (drop l.index l.left))) (trees_of (map tree_of (drop l.index l.right)))
    ≡ clash_in (trees_of (map tree_of l.left)) (trees_of (map tree_of l.right))
