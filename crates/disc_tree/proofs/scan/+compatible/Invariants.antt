use Rattle.std.proofs.Common.{◌≡◌, ◌+◌, ◌*◌, map, drop}
use Rattle.fol_base.specs.Tree.{tree_size, trees_size, trees_of}
use Rattle.fol_base.specs.Term.{tree_of}
use Rattle.fol_base.specs.Compatible.{all_compatible_by}
use Rattle.disc_tree.proofs.scan.+compatible.Given as goal

abbrev pub decreases-is_compatible : goal.decreases-is_compatible
decreases-is_compatible l = 2 * tree_size (tree_of l.entry.now)

abbrev pub decreases-are_compatible : goal.decreases-are_compatible
decreases-are_compatible l = 2 * trees_size (trees_of (map tree_of l.entries.now)) + 1

abbrev pub invariant-are_compatible-loop-index : goal.invariant-are_compatible-loop-index
invariant-are_compatible-loop-index l =
    all_compatible_by l.entry_varies l.query_varies (trees_of (map tree_of (drop l.index l.entries))) (trees_of (map tree_of (drop l.index l.queries)))
    ≡ all_compatible_by l.entry_varies l.query_varies (trees_of (map tree_of l.entries)) (trees_of (map tree_of l.queries))
