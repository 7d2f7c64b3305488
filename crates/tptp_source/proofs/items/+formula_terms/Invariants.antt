use Rattle.std.proofs.Common.{◌≡◌, ◌+◌, ◌*◌, drop, map}
use Rattle.tptp_source.specs.General.{tree_size, trees_size, trees_of}
use Rattle.tptp_source.specs.Shape.{tree_of}
use Rattle.tptp_source.specs.Items.{terms_in}
use Rattle.tptp_source.proofs.AboutParts.FormulaTerms.{front_terms}
use Rattle.tptp_source.proofs.items.+formula_terms.Given as goal

abbrev pub decreases-formula_term_of : goal.decreases-formula_term_of
decreases-formula_term_of l = 2 * tree_size (tree_of l.term.now)

abbrev pub decreases-formula_terms_of : goal.decreases-formula_terms_of
decreases-formula_terms_of l = 2 * trees_size (trees_of (map tree_of l.terms.now)) + 1

abbrev pub invariant-formula_terms_of-loop-term : goal.invariant-formula_terms_of-loop-term
invariant-formula_terms_of-loop-term l =
    terms_in (trees_of (map tree_of l.terms)) ≡ front_terms l.made (terms_in (trees_of (map tree_of (drop l.term-index l.terms))))
