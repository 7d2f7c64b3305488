use Rattle.std.proofs.Common.{◌≡◌, ◌++◌, ◌+◌, ◌*◌, map, drop}
use Rattle.tptp_tree.specs.Term.{term_size, terms_size, terms_of}
use Rattle.tptp_tree.specs.Shape.{term_of}
use Rattle.signature.specs.Environment.{terms_names}
use Rattle.clausal_form.proofs.closing.+push_term_names.Given as goal

abbrev pub decreases-push_term_names : goal.decreases-push_term_names
decreases-push_term_names l = 2 * term_size (term_of l.term.now)

abbrev pub decreases-push_all_term_names : goal.decreases-push_all_term_names
decreases-push_all_term_names l = 2 * terms_size (terms_of (map term_of l.terms.now)) + 1

abbrev pub invariant-push_all_term_names-loop-term : goal.invariant-push_all_term_names-loop-term
invariant-push_all_term_names-loop-term l =
    l.names ++ terms_names (terms_of (map term_of (drop l.term-index l.terms))) ≡ l.initial.names ++ terms_names (terms_of (map term_of l.terms))
