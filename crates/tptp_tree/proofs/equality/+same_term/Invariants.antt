use Rattle.std.proofs.Common.{◌≡◌, ◌+◌, ◌*◌, map, drop}
use Rattle.tptp_tree.specs.Term.{term_size, terms_size, terms_of}
use Rattle.tptp_tree.specs.Shape.{term_of}
use Rattle.tptp_tree.specs.Equality.{same_terms}
use Rattle.tptp_tree.proofs.equality.+same_term.Given as goal

abbrev pub decreases-same_term : goal.decreases-same_term
decreases-same_term l = 2 * term_size (term_of l.left.now)

abbrev pub decreases-same_terms : goal.decreases-same_terms
decreases-same_terms l = 2 * terms_size (terms_of (map term_of l.left.now)) + 1

abbrev pub invariant-same_terms-loop-index : goal.invariant-same_terms-loop-index
invariant-same_terms-loop-index l =
    same_terms (terms_of (map term_of (drop l.index l.left))) (terms_of (map term_of (drop l.index l.right)))
    ≡ same_terms (terms_of (map term_of l.left)) (terms_of (map term_of l.right))
