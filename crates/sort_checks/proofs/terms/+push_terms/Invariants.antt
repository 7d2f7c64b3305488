use Rattle.std.proofs.Common.{◌≡◌, ◌+◌, ◌*◌, ◌++◌, length, map, []}
use Rattle.tptp_tree.specs.Shape.{term_of}
use Rattle.tptp_tree.specs.Term.{term_size, terms_size, terms_of}
use Rattle.typed_problem.specs.SortFaults.{terms_causes}
use Rattle.sort_checks.specs.Lent.{declared_among}
use Rattle.sort_checks.specs.Wanted.{arguments_wanted}
use Rattle.sort_checks.proofs.CauseLemmas.{arguments_left}
use Rattle.sort_checks.proofs.terms.+push_terms.Given as goal

abbrev pub decreases-push_term : goal.decreases-push_term
decreases-push_term l = 2 * term_size (term_of l.term.now)

abbrev pub decreases-push_arguments : goal.decreases-push_arguments
decreases-push_arguments l = 2 * terms_size (terms_of (map term_of l.terms.now)) + 1

abbrev pub invariant-push_arguments-loop-index : goal.invariant-push_arguments-loop-index
invariant-push_arguments-loop-index l =
    l.causes.items ++ arguments_left (declared_among l.table) l.scope (arguments_wanted (length l.terms) l.declaration) l.terms l.index
    ≡ l.initial.causes.items
    ++ terms_causes (declared_among l.table) l.scope (arguments_wanted (length l.terms) l.declaration) (terms_of (map term_of l.terms)) []
