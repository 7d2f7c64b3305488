use Rattle.std.proofs.Common.{◌≡◌, ◌+◌, ◌*◌, map, take}
use Rattle.fol_base.specs.Tree.{tree_size, trees_size, trees_of}
use Rattle.fol_base.specs.Instance.{instance}
use Rattle.fol_base.specs.Term.{tree_of}
use Rattle.herbrand_list.specs.Worked.{putting}
use Rattle.herbrand_list.proofs.put_in.+put.Given as goal

abbrev pub decreases-put_term : goal.decreases-put_term
decreases-put_term l = 2 * tree_size (tree_of l.term.now)

abbrev pub decreases-put_terms : goal.decreases-put_terms
decreases-put_terms l = 2 * trees_size (trees_of (map tree_of l.terms.now)) + 1

abbrev pub invariant-put_terms-loop-term : goal.invariant-put_terms-loop-term
invariant-put_terms-loop-term l = map tree_of l.items.items ≡ map (instance (putting l.put)) (map tree_of (take l.term-index l.terms))
