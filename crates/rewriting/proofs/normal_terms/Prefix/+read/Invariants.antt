use Rattle.std.proofs.Common.{◌≡◌, ◌+◌, ◌*◌, map, take}
use Rattle.fol_base.specs.Tree.{tree_size, trees_size, trees_of}
use Rattle.fol_base.specs.Term.{tree_of}
use Rattle.rewriting.proofs.normal_terms.Prefix.+read.Given as goal

abbrev pub decreases-with_term : goal.decreases-with_term
decreases-with_term l = 2 * tree_size (tree_of l.term.now)

abbrev pub decreases-with_terms : goal.decreases-with_terms
decreases-with_terms l = 2 * trees_size (trees_of (map tree_of l.terms.now)) + 1

abbrev pub invariant-with_terms-loop-index : goal.invariant-with_terms-loop-index
invariant-with_terms-loop-index l = l.all.left + trees_size (trees_of (map tree_of (take l.index l.terms))) ≡ l.fn.self.left
