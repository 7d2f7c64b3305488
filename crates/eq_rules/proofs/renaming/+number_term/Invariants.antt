use Rattle.std.proofs.Common.{◌≡◌, ◌+◌, ◌*◌, take}
use Rattle.std.specs.Prelude.{flat_map}
use Rattle.fol_base.specs.Tree.{tree_size, trees_size, trees_of}
use Rattle.fol_base.specs.Numbering.{with_variables}
use Rattle.fol_base.specs.Term.{tree_of}
use Rattle.fol_base.proofs.AboutCanonical.WalkLemmas.{term_parts}
use Rattle.eq_rules.proofs.renaming.+number_term.Given as goal

abbrev pub decreases-number_term : goal.decreases-number_term
decreases-number_term l = 2 * tree_size (tree_of l.term.now)

abbrev pub decreases-number_terms : goal.decreases-number_terms
decreases-number_terms l = 2 * trees_size (trees_of l.terms.now) + 1

abbrev pub invariant-number_terms-loop-term : goal.invariant-number_terms-loop-term
invariant-number_terms-loop-term l =
    l.numbers ≡ with_variables l.initial.numbers (flat_map term_parts (take l.term-index l.term-items))
