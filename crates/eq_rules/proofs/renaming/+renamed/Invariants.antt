use Rattle.std.proofs.Common.{◌≡◌, ◌+◌, ◌*◌, map, take}
use Rattle.std.specs.Prelude.{flat_map}
use Rattle.fol_base.specs.Tree.{tree_size, trees_size, trees_of}
use Rattle.fol_base.specs.Canonical.{renaming}
use Rattle.fol_base.specs.Numbering.{with_variables}
use Rattle.fol_base.specs.Term.{tree_of}
use Rattle.fol_base.proofs.AboutCanonical.WalkLemmas.{term_parts, term_instance}
use Rattle.eq_rules.proofs.renaming.+renamed.Given as goal

abbrev pub decreases-renamed_term : goal.decreases-renamed_term
decreases-renamed_term l = 2 * tree_size (tree_of l.term.now)

abbrev pub decreases-renamed_terms : goal.decreases-renamed_terms
decreases-renamed_terms l = 2 * trees_size (trees_of l.terms.now) + 1

abbrev pub invariant-renamed_terms-loop-term : goal.invariant-renamed_terms-loop-term
invariant-renamed_terms-loop-term l = record {
  met : l.numbers ≡ with_variables l.initial.numbers (flat_map term_parts (take l.term-index l.term-items));
  form : map tree_of l.items.items ≡ map (term_instance (renaming l.numbers)) (take l.term-index l.term-items);
}
