use Rattle.std.proofs.Common.{◌≡◌, ◌++◌, ◌+◌, ◌*◌, length, map, drop}
use Rattle.tptp_tree.specs.Term.{term_size, terms_size, terms_of}
use Rattle.tptp_tree.specs.Shape.{term_of}
use Rattle.fol_base.specs.Tree.{trees_of}
use Rattle.signature.specs.Occurrences.{terms_symbols}
use Rattle.signature.specs.Environment.{terms_names}
use Rattle.skolem.specs.BoundTerm.{bound_tree}
use Rattle.skolem.specs.Skolemized.{AreKnown}
use Rattle.skolem.specs.Literal.{filled_terms}
use Rattle.skolem.proofs.AboutFormulas.LiteralLemmas.{fills_left, names_left}
use Rattle.skolem.proofs.filling.+filled.Given as goal

abbrev pub decreases-filled : goal.decreases-filled
decreases-filled l = 2 * term_size (term_of l.term.now)

abbrev pub decreases-filled_terms : goal.decreases-filled_terms
decreases-filled_terms l = 2 * terms_size (terms_of (map term_of l.terms.now)) + 1

abbrev pub invariant-filled_terms-loop-term : goal.invariant-filled_terms-loop-term
invariant-filled_terms-loop-term l =
    (trees_of (l.trees ++ fills_left l.signature l.terms l.term-index (map bound_tree l.left))
    ≡ filled_terms l.signature (terms_of (map term_of l.terms)) (map bound_tree l.bound))
    × (drop (names_left l.terms l.term-index) (map bound_tree l.left)
    ≡ drop (length (terms_names (terms_of (map term_of l.terms)))) (map bound_tree l.bound))
    × AreKnown l.signature (terms_symbols (terms_of (map term_of (drop l.term-index l.terms))))
