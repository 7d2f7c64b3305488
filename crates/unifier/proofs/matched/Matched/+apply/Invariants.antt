use Rattle.std.proofs.Common.{◌≡◌, ◌+◌, ◌*◌, map, take}
use Rattle.fol_base.specs.Tree.{tree_size, trees_size, trees_of}
use Rattle.fol_base.specs.Instance.{instance}
use Rattle.fol_base.specs.Term.{tree_of}
use Rattle.unifier.specs.Matching.{by_pairs}
use Rattle.unifier.proofs.matched.Matched.+apply.Given as goal

abbrev pub decreases-apply : goal.decreases-apply
decreases-apply l = 2 * tree_size (tree_of l.term.now)

abbrev pub decreases-apply_all : goal.decreases-apply_all
decreases-apply_all l = 2 * trees_size (trees_of (map tree_of l.terms.now)) + 1

abbrev pub invariant-apply_all-loop-term : goal.invariant-apply_all-loop-term
invariant-apply_all-loop-term l =
    map tree_of l.items.items ≡ map (instance (by_pairs l.self)) (map tree_of (take l.term-index l.terms))
