use Rattle.std.proofs.Common.{◌≡◌, ◌+◌, ◌*◌, map, drop}
use Rattle.fol_base.specs.Tree.{tree_size, trees_size, trees_of, trees_eq}
use Rattle.fol_base.specs.Term.{tree_of}
use Rattle.kernel_steps.specs.Split.{renamed}
use Rattle.fol_base.specs.Instance.{instances}
use Rattle.kernel_steps.proofs.split.+is_renamed.Given as goal

abbrev pub decreases-is_renamed : goal.decreases-is_renamed
decreases-is_renamed l = 2 * tree_size (tree_of l.term.now)

abbrev pub decreases-are_all_renamed : goal.decreases-are_all_renamed
decreases-are_all_renamed l = 2 * trees_size (trees_of (map tree_of l.terms.now)) + 1

abbrev pub invariant-are_all_renamed-loop-index : goal.invariant-are_all_renamed-loop-index
invariant-are_all_renamed-loop-index l =
    trees_eq (instances (renamed l.places) (trees_of (map tree_of (drop l.index l.terms)))) (trees_of (map tree_of (drop l.index l.targets)))
    ≡ trees_eq (instances (renamed l.places) (trees_of (map tree_of l.terms))) (trees_of (map tree_of l.targets))
