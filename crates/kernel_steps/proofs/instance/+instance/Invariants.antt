use Rattle.std.proofs.Common.{◌≡◌, ◌+◌, ◌*◌, map, take}
use Rattle.fol_base.specs.Tree.{tree_size, trees_size, trees_of}
use Rattle.fol_base.specs.Term.{tree_of}
use Rattle.fol_base.specs.Instance.{instance}
use Rattle.kernel_steps.proofs.instance.+instance.Given as goal

abbrev pub decreases-instance : goal.decreases-instance
decreases-instance g l = 2 * tree_size (tree_of l.term.now)

abbrev pub decreases-instances : goal.decreases-instances
decreases-instances g l = 2 * trees_size (trees_of (map tree_of l.terms.now)) + 1

abbrev pub invariant-instances-loop-term : goal.invariant-instances-loop-term
invariant-instances-loop-term g l =
    map tree_of l.items.items ≡ map (instance (g.S.LendsTerms.meaning l.bind)) (map tree_of (take l.term-index l.terms))
