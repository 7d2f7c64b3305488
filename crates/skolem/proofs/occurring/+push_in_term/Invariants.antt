use Rattle.std.proofs.Common.{◌≡◌, ◌++◌, ◌+◌, ◌*◌, map, drop}
use Rattle.tptp_tree.specs.Term.{term_size, terms_size, terms_of}
use Rattle.tptp_tree.specs.Shape.{term_of}
use Rattle.signature.specs.Environment.{terms_names}
use Rattle.skolem.specs.Progress.{environment_of, occurring_in, outer_variables}
use Rattle.skolem.proofs.occurring.+push_in_term.Given as goal

abbrev pub decreases-push_in_term : goal.decreases-push_in_term
decreases-push_in_term l = 2 * term_size (term_of l.term.now)

abbrev pub decreases-push_in_terms : goal.decreases-push_in_terms
decreases-push_in_terms l = 2 * terms_size (terms_of (map term_of l.terms.now)) + 1

abbrev pub invariant-push_in_terms-loop-term : goal.invariant-push_in_terms-loop-term
invariant-push_in_terms-loop-term l =
    outer_variables l.outer l.bindings l.places.items ++ occurring_in (environment_of l.bindings) (terms_names (terms_of (map term_of (drop l.term-index l.terms))))
    ≡ outer_variables l.outer l.bindings l.initial.places.items ++ occurring_in (environment_of l.bindings) (terms_names (terms_of (map term_of l.terms)))
