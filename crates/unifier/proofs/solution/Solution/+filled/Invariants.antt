use Rattle.std.proofs.Common.{◌≡◌, ◌+◌, ◌*◌, map, take}
use Rattle.fol_base.specs.Tree.{tree_size, trees_size, trees_of}
use Rattle.fol_base.specs.Instance.{instance}
use Rattle.fol_base.specs.Term.{tree_of}
use Rattle.unifier.specs.Solution.{solved_form}
use Rattle.unifier.specs.SolvedForm.{substitution_of}
use Rattle.unifier.proofs.solution.Solution.+filled.Given as goal

abbrev pub decreases-filled : goal.decreases-filled
decreases-filled l = 2 * tree_size (tree_of l.term.now)

abbrev pub decreases-all_filled : goal.decreases-all_filled
decreases-all_filled l = 2 * trees_size (trees_of (map tree_of l.terms.now)) + 1

abbrev pub invariant-all_filled-loop-term : goal.invariant-all_filled-loop-term
invariant-all_filled-loop-term l =
    map tree_of l.items.items ≡ map (instance (substitution_of (solved_form l.self) l.side)) (map tree_of (take l.term-index l.terms))
