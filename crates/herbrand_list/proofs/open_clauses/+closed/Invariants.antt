use Rattle.std.proofs.Common.{◌≡◌, ◌+◌, ◌*◌, map, drop}
use Rattle.fol_base.specs.Tree.{tree_size, trees_size, trees_of}
use Rattle.fol_base.specs.Term.{tree_of}
use Rattle.fol_base.specs.Ground.{are_ground}
use Rattle.herbrand_list.proofs.open_clauses.+closed.Given as goal

abbrev pub decreases-is_ground_term : goal.decreases-is_ground_term
decreases-is_ground_term l = 2 * tree_size (tree_of l.term.now)

abbrev pub decreases-are_ground_terms : goal.decreases-are_ground_terms
decreases-are_ground_terms l = 2 * trees_size (trees_of (map tree_of l.terms.now)) + 1

abbrev pub invariant-are_ground_terms-loop-index : goal.invariant-are_ground_terms-loop-index
invariant-are_ground_terms-loop-index l =
    are_ground (trees_of (map tree_of (drop l.index l.terms))) ≡ are_ground (trees_of (map tree_of l.terms))
