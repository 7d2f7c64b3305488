use Rattle.std.proofs.Common.{◌≡◌, ◌+◌, ◌-◌, ◌*◌, ◌^◌, min, map, take}
use Rattle.fol_base.specs.Tree.{tree_size, trees_size, trees_of}
use Rattle.fol_base.specs.Term.{tree_of}
use Rattle.fol_base.specs.Instance.{Substitution, instances}
use Rattle.herbrand_list.specs.Worked.{AreSizes}
use Rattle.herbrand_list.proofs.sizes.+bound_size.Given as goal

abbrev pub decreases-bound_size : goal.decreases-bound_size
decreases-bound_size l = 2 * tree_size (tree_of l.term.now)

abbrev pub decreases-all_bound_size : goal.decreases-all_bound_size
decreases-all_bound_size l = 2 * trees_size (trees_of (map tree_of l.terms.now)) + 1

abbrev pub invariant-all_bound_size-loop-term : goal.invariant-all_bound_size-loop-term
invariant-all_bound_size-loop-term l =
    (σ : Substitution) → AreSizes σ l.sizes
    → l.total ≡ min (trees_size (instances σ (trees_of (map tree_of (take l.term-index l.terms))))) (2 ^ 64 - 1)
