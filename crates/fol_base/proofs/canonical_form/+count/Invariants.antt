use Rattle.std.proofs.Common.{◌≡◌, ◌+◌, ◌*◌, ◌≤◌, ◌^◌, Some, take}
use Rattle.std.specs.Prelude.{flat_map}
use Rattle.fol_base.specs.Tree.{tree_size, trees_size, trees_of}
use Rattle.fol_base.specs.Numbering.{count_after}
use Rattle.fol_base.specs.Term.{tree_of}
use Rattle.fol_base.proofs.AboutCanonical.WalkLemmas.{term_parts}
use Rattle.fol_base.proofs.canonical_form.+count.Given as goal

abbrev pub decreases-count_in_term : goal.decreases-count_in_term
decreases-count_in_term l = 2 * tree_size (tree_of l.term.now)

abbrev pub decreases-count_in_terms : goal.decreases-count_in_terms
decreases-count_in_terms l = 2 * trees_size (trees_of l.terms.now) + 1

abbrev pub invariant-count_in_terms-loop-term : goal.invariant-count_in_terms-loop-term
invariant-count_in_terms-loop-term l = record {
  counted : count_after l.initial.counted (flat_map term_parts (take l.term-index l.term-items)) ≡ Some l.counted;
  limit : l.counted ≤ 2 ^ 32;
}
