use Rattle.std.proofs.Common.{◌≡◌, ◌++◌, ◌+◌, ◌*◌, ◌-◌, ◌^◌, ◌≤◌, map, drop}
use Rattle.std.specs.Prelude.{min}
use Rattle.tptp_tree.specs.Term.{term_size, terms_size, terms_of}
use Rattle.tptp_tree.specs.Shape.{term_of}
use Rattle.signature.specs.Environment.{terms_names}
use Rattle.skolem.specs.BoundTerm.{bound_tree}
use Rattle.skolem.specs.Literal.{terms_in_force, sizes_under}
use Rattle.skolem.specs.Progress.{environment_of}
use Rattle.skolem.proofs.filling.+push_bound.Given as goal

abbrev pub decreases-push_bound : goal.decreases-push_bound
decreases-push_bound l = 2 * term_size (term_of l.term.now)

abbrev pub decreases-push_all_bound : goal.decreases-push_all_bound
decreases-push_all_bound l = 2 * terms_size (terms_of (map term_of l.terms.now)) + 1

abbrev pub invariant-push_all_bound-loop-term : goal.invariant-push_all_bound-loop-term
invariant-push_all_bound-loop-term l =
    (map bound_tree l.bound.terms.items ++ terms_in_force (environment_of l.bindings) (terms_names (terms_of (map term_of (drop l.term-index l.terms))))
    ≡ map bound_tree l.initial.bound.terms.items ++ terms_in_force (environment_of l.bindings) (terms_names (terms_of (map term_of l.terms))))
    × (min (l.bound.size + sizes_under (environment_of l.bindings) (terms_of (map term_of (drop l.term-index l.terms)))) (2 ^ 64 - 1)
    ≡ min (l.initial.bound.size + sizes_under (environment_of l.bindings) (terms_of (map term_of l.terms))) (2 ^ 64 - 1))
    × (l.bound.size ≤ 2 ^ 64 - 1)
