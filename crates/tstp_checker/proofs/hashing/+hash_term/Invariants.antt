use Rattle.std.proofs.Common.{◌≡◌, ◌+◌, ◌*◌, map, drop, fold}
use Rattle.tptp_tree.specs.Term.{term_size, terms_size, terms_of}
use Rattle.tptp_tree.specs.Shape.{term_of}
use Rattle.tstp_checker.specs.Hashing.{terms_writes}
use Rattle.tstp_checker.proofs.hashing.+hash_term.Given as goal

abbrev pub decreases-hash_term : goal.decreases-hash_term
decreases-hash_term g l = 2 * term_size (term_of l.term.now)

abbrev pub decreases-hash_terms : goal.decreases-hash_terms
decreases-hash_terms g l = 2 * terms_size (terms_of (map term_of l.terms.now)) + 1

abbrev pub invariant-hash_terms-loop-term : goal.invariant-hash_terms-loop-term
invariant-hash_terms-loop-term g l =
    fold g.H.Hasher.write l.state (terms_writes (terms_of (map term_of (drop l.term-index l.terms))))
    ≡ fold g.H.Hasher.write l.initial.state (terms_writes (terms_of (map term_of l.terms)))
