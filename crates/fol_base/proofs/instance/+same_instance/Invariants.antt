use Rattle.std.proofs.Common.{◌≡◌, ◌+◌, ◌*◌, map, drop}
use Rattle.fol_base.specs.Tree.{tree_size, trees_size, trees_of, trees_eq}
use Rattle.fol_base.specs.Term.{tree_of}
use Rattle.fol_base.specs.Instance.{instances}
use Rattle.fol_base.proofs.instance.+same_instance.Given as goal

abbrev pub decreases-same_instance : goal.decreases-same_instance
decreases-same_instance g l = 2 * tree_size (tree_of l.left.now)

abbrev pub decreases-same_instances : goal.decreases-same_instances
decreases-same_instances g l = 2 * trees_size (trees_of (map tree_of l.left.now)) + 1

abbrev pub invariant-same_instances-loop-index : goal.invariant-same_instances-loop-index
invariant-same_instances-loop-index g l =
    trees_eq
    (instances (g.S.LendsTerms.meaning l.left_subst) (trees_of (map tree_of (drop l.index l.left))))
    (instances (g.T.LendsTerms.meaning l.right_subst) (trees_of (map tree_of (drop l.index l.right))))
    ≡ trees_eq
    (instances (g.S.LendsTerms.meaning l.left_subst) (trees_of (map tree_of l.left)))
    (instances (g.T.LendsTerms.meaning l.right_subst) (trees_of (map tree_of l.right)))
