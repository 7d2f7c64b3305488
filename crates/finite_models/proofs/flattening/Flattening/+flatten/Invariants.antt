use Rattle.std.proofs.Common.{◌≡◌, ◌+◌, ◌*◌, ◌++◌, map, take}
use Rattle.fol_base.specs.Tree.{tree_size, trees_size, trees_of}
use Rattle.fol_base.specs.Term.{tree_of}
use Rattle.finite_models.specs.Measure.{all_occurrences}
use Rattle.finite_models.specs.Flattening.{terms_slots, terms_literals}
use Rattle.finite_models.proofs.flattening.Flattening.+flatten.Given as goal

abbrev pub decreases-term : goal.decreases-term
decreases-term l = 2 * tree_size (tree_of l.term.now)

abbrev pub decreases-terms : goal.decreases-terms
decreases-terms l = 2 * trees_size (trees_of l.terms.now) + 1

abbrev pub invariant-terms-loop-term : goal.invariant-terms-loop-term
invariant-terms-loop-term l = record {
  slots : l.slots.items ≡ terms_slots l.initial.self.next (trees_of (map tree_of (take l.term-index l.term-items)));
  next : l.self.next ≡ l.initial.self.next + all_occurrences (trees_of (map tree_of (take l.term-index l.term-items)));
  literals : l.self.literals.items ≡ l.initial.self.literals.items ++ terms_literals l.initial.self.next (trees_of (map tree_of (take l.term-index l.term-items)));
}
