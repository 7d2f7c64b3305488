use Rattle.std.proofs.Common.{◌≡◌, ◌+◌, ◌*◌, map, take}
use Rattle.plain_types.specs.Capped.{capped}
use Rattle.fol_base.specs.Tree.{tree_size, trees_size, trees_of}
use Rattle.fol_base.specs.Term.{tree_of}
use Rattle.finite_models.specs.Measure.{all_occurrences}
use Rattle.finite_models.proofs.measuring.+occurrences.Given as goal

abbrev pub decreases-occurrences : goal.decreases-occurrences
decreases-occurrences l = 2 * tree_size (tree_of l.term.now)

abbrev pub decreases-all_occurrences : goal.decreases-all_occurrences
decreases-all_occurrences l = 2 * trees_size (trees_of l.terms.now) + 1

abbrev pub invariant-all_occurrences-loop-term : goal.invariant-all_occurrences-loop-term
invariant-all_occurrences-loop-term l = l.total ≡ capped (all_occurrences (trees_of (map tree_of (take l.term-index l.term-items))))
