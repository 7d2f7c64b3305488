use Rattle.std.proofs.Common.{◌≡◌, ◌+◌, ◌*◌, map, drop}
use Rattle.fol_base.specs.Tree.{tree_size, trees_size, trees_of, trees_eq}
use Rattle.fol_base.specs.Term.{tree_of}
use Rattle.fol_base.specs.Instance.{instances}
use Rattle.fol_base.proofs.instance.+is_instance.Given as goal

abbrev pub decreases-is_instance : goal.decreases-is_instance
decreases-is_instance g l = 2 * tree_size (tree_of l.term.now)

abbrev pub decreases-are_instances : goal.decreases-are_instances
decreases-are_instances g l = 2 * trees_size (trees_of (map tree_of l.terms.now)) + 1

abbrev pub invariant-are_instances-loop-index : goal.invariant-are_instances-loop-index
invariant-are_instances-loop-index g l =
    trees_eq (instances (g.S.LendsTerms.meaning l.subst) (trees_of (map tree_of (drop l.index l.terms)))) (trees_of (map tree_of (drop l.index l.targets)))
    ≡ trees_eq (instances (g.S.LendsTerms.meaning l.subst) (trees_of (map tree_of l.terms))) (trees_of (map tree_of l.targets))
