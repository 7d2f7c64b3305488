use Rattle.std.proofs.Common.{◌≡◌, ◌+◌, ◌*◌, ◌++◌, map, take}
use Rattle.fol_base.specs.Tree.{tree_size, trees_size, trees_of, trees_variables}
use Rattle.fol_base.specs.Term.{tree_of}
use Rattle.unifier.specs.SolvedForm.{code_of}
use Rattle.unifier.proofs.layout.+push_codes.Given as goal

abbrev pub decreases-push_codes : goal.decreases-push_codes
decreases-push_codes l = 2 * tree_size (tree_of l.term.now)

abbrev pub decreases-push_all_codes : goal.decreases-push_all_codes
decreases-push_all_codes l = 2 * trees_size (trees_of (map tree_of l.terms.now)) + 1

abbrev pub invariant-push_all_codes-loop-term : goal.invariant-push_all_codes-loop-term
invariant-push_all_codes-loop-term l =
    l.codes.items
    ≡ l.initial.codes.items ++ map (code_of l.apart l.side) (trees_variables (trees_of (map tree_of (take l.term-index l.terms))))
