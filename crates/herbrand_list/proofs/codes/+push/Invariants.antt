use Rattle.std.proofs.Common.{◌≡◌, ◌++◌, ◌+◌, ◌*◌, [], map, take}
use Rattle.fol_base.specs.Tree.{tree_size, trees_size, trees_of}
use Rattle.fol_base.specs.TreeCode.{trees_steps}
use Rattle.fol_base.specs.Term.{tree_of}
use Rattle.herbrand_list.specs.Worked.{step_numbers}
use Rattle.herbrand_list.proofs.codes.+push.Given as goal

abbrev pub decreases-push_term : goal.decreases-push_term
decreases-push_term l = 2 * tree_size (tree_of l.term.now)

abbrev pub decreases-push_terms : goal.decreases-push_terms
decreases-push_terms l = 2 * trees_size (trees_of (map tree_of l.terms.now)) + 1

abbrev pub invariant-push_terms-loop-term : goal.invariant-push_terms-loop-term
invariant-push_terms-loop-term l =
    l.key.items ≡ l.initial.key.items ++ step_numbers (trees_steps (trees_of (map tree_of (take l.term-index l.terms))) [])
