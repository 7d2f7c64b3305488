use Rattle.std.proofs.Common.{◌≡◌, ◌+◌, ◌-◌, ◌*◌, ◌^◌, min, map, take}
use Rattle.fol_base.specs.Tree.{tree_size, trees_size, trees_of}
use Rattle.fol_base.specs.Term.{tree_of}
use Rattle.fol_base.specs.Instance.{instances}
use Rattle.fol_base.proofs.instance.+instance_size.Given as goal

abbrev pub decreases-instance_size : goal.decreases-instance_size
decreases-instance_size g l = 2 * tree_size (tree_of l.term.now)

abbrev pub decreases-instance_sizes : goal.decreases-instance_sizes
decreases-instance_sizes g l = 2 * trees_size (trees_of (map tree_of l.terms.now)) + 1

abbrev pub invariant-instance_sizes-loop-term : goal.invariant-instance_sizes-loop-term
invariant-instance_sizes-loop-term g l =
    l.total ≡ min (trees_size (instances (g.S.LendsTerms.meaning l.subst) (trees_of (map tree_of (take l.term-index l.terms))))) (2 ^ 64 - 1)
