use Rattle.std.proofs.Common.{◌≡◌, ◌+◌, ◌*◌, map, drop}
use Rattle.fol_base.specs.Tree.{tree_size, trees_size, trees_of, trees_eq}
use Rattle.fol_base.specs.Term.{tree_of}
use Rattle.fol_base.proofs.equality.+same.Given as goal

abbrev pub decreases-same_term : goal.decreases-same_term
decreases-same_term l = 2 * tree_size (tree_of l.left.now)

abbrev pub decreases-same_terms : goal.decreases-same_terms
decreases-same_terms l = 2 * trees_size (trees_of (map tree_of l.left.now)) + 1

abbrev pub invariant-same_terms-loop-index : goal.invariant-same_terms-loop-index
invariant-same_terms-loop-index l =
    trees_eq (trees_of (map tree_of (drop l.index l.left))) (trees_of (map tree_of (drop l.index l.right)))
    ≡ trees_eq (trees_of (map tree_of l.left)) (trees_of (map tree_of l.right))
