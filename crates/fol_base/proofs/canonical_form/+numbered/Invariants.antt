use Rattle.std.proofs.Common.{◌≡◌, ◌+◌, ◌*◌, map, take}
use Rattle.std.specs.Prelude.{flat_map}
use Rattle.fol_base.specs.Tree.{tree_size, trees_size, trees_of}
use Rattle.fol_base.specs.Canonical.{renaming}
use Rattle.fol_base.specs.Numbering.{with_variables}
use Rattle.fol_base.specs.Term.{tree_of}
use Rattle.fol_base.proofs.AboutCanonical.WalkLemmas.{term_parts, term_instance}
use Rattle.fol_base.proofs.canonical_form.+numbered.Given as goal

abbrev pub decreases-numbered_term : goal.decreases-numbered_term
decreases-numbered_term l = 2 * tree_size (tree_of l.term.now)

abbrev pub decreases-numbered_terms : goal.decreases-numbered_terms
decreases-numbered_terms l = 2 * trees_size (trees_of l.terms.now) + 1

abbrev pub invariant-numbered_terms-loop-term : goal.invariant-numbered_terms-loop-term
invariant-numbered_terms-loop-term l = record {
  met : l.numbering ≡ with_variables l.initial.numbering (flat_map term_parts (take l.term-index l.term-items));
  form : map tree_of l.items.items ≡ map (term_instance (renaming l.numbering)) (take l.term-index l.term-items);
}
