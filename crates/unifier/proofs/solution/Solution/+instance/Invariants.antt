use Rattle.std.proofs.Common.{◌≡◌, ◌+◌, ◌*◌, map, take}
use Rattle.fol_base.specs.Tree.{tree_size, trees_size, trees_of}
use Rattle.fol_base.specs.Instance.{instances}
use Rattle.fol_base.specs.Term.{tree_of}
use Rattle.unifier.specs.Solution.{solved_form}
use Rattle.unifier.specs.SolvedForm.{substitution_of}
use Rattle.plain_types.specs.Capped.{capped}
use Rattle.unifier.proofs.solution.Solution.+instance.Given as goal

abbrev pub decreases-term_size : goal.decreases-term_size
decreases-term_size l = 2 * tree_size (tree_of l.term.now)

abbrev pub decreases-terms_size : goal.decreases-terms_size
decreases-terms_size l = 2 * trees_size (trees_of (map tree_of l.terms.now)) + 1

abbrev pub invariant-terms_size-loop-term : goal.invariant-terms_size-loop-term
invariant-terms_size-loop-term l =
    l.total ≡ capped (trees_size (instances (substitution_of (solved_form l.self) l.side) (trees_of (map tree_of (take l.term-index l.terms)))))
