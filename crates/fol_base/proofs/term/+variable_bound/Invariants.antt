use Rattle.std.proofs.Common.{◌≡◌, ◌+◌, ◌*◌, ◌≤◌, ◌^◌, map, take}
use Rattle.fol_base.specs.Canonical.{bound_of}
use Rattle.fol_base.specs.Tree.{tree_size, trees_size, trees_of, trees_variables}
use Rattle.fol_base.specs.Term.{tree_of}
use Rattle.fol_base.proofs.term.+variable_bound.Given as goal

abbrev pub decreases-Term::variable_bound : goal.decreases-Term::variable_bound
decreases-Term::variable_bound l = 2 * tree_size (tree_of l.self.now)

abbrev pub decreases-Terms::variable_bound : goal.decreases-Terms::variable_bound
decreases-Terms::variable_bound l = 2 * trees_size (trees_of l.self.now) + 1

abbrev pub invariant-Terms::variable_bound-loop-term : goal.invariant-Terms::variable_bound-loop-term
invariant-Terms::variable_bound-loop-term l =
    (l.bound ≡ bound_of (trees_variables (trees_of (map tree_of (take l.term-index l.term-items))))) × (l.bound ≤ 2 ^ 32)
