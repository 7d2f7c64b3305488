use Rattle.std.proofs.Common.{◌≡◌, ◌≤◌, ◌+◌, ◌*◌, map, drop}
use Rattle.std.specs.Prelude.{min}
use Rattle.tptp_tree.specs.Term.{term_size, terms_size, terms_of}
use Rattle.tptp_tree.specs.Shape.{term_of}
use Rattle.fol_base.specs.declared.limits.TheConstants.{MOST_SYMBOLS}
use Rattle.clausal_form.proofs.heavy.+term_size_from.Given as goal

abbrev pub decreases-term_size_from : goal.decreases-term_size_from
decreases-term_size_from l = 2 * term_size (term_of l.term.now)

abbrev pub decreases-terms_size_from : goal.decreases-terms_size_from
decreases-terms_size_from l = 2 * terms_size (terms_of (map term_of l.terms.now)) + 1

abbrev pub invariant-terms_size_from-loop-term : goal.invariant-terms_size_from-loop-term
invariant-terms_size_from-loop-term l =
    (min (l.total + terms_size (terms_of (map term_of (drop l.term-index l.terms)))) (MOST_SYMBOLS + 1)
    ≡ min (l.size + terms_size (terms_of (map term_of l.terms))) (MOST_SYMBOLS + 1))
    × (l.total ≤ MOST_SYMBOLS + 1)
