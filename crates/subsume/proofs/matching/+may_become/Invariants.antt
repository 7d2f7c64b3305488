use Rattle.std.proofs.Common.{◌+◌, ◌*◌, map}
use Rattle.fol_base.specs.Tree.{tree_size, trees_size, trees_of}
use Rattle.fol_base.specs.Term.{tree_of}
use Rattle.subsume.proofs.matching.+may_become.Given as goal

abbrev pub decreases-may_become : goal.decreases-may_become
decreases-may_become l = 2 * tree_size (tree_of l.pattern.now)

abbrev pub decreases-all_may_become : goal.decreases-all_may_become
decreases-all_may_become l = 2 * trees_size (trees_of (map tree_of l.patterns.now)) + 1
