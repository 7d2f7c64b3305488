use Rattle.std.proofs.Common.{◌≡◌, ◌+◌, ◌*◌, map, drop, fold}
use Rattle.tptp_tree.specs.Term.{term_size, terms_size, terms_of}
use Rattle.tptp_tree.specs.Shape.{term_of}
use Rattle.signature.specs.Symbol.{with_symbol}
use Rattle.signature.specs.Occurrences.{terms_symbols}
use Rattle.signature.proofs.meeting.+meet_term.Given as goal

abbrev pub decreases-meet_term : goal.decreases-meet_term
decreases-meet_term l = 2 * term_size (term_of l.term.now)

abbrev pub decreases-meet_terms : goal.decreases-meet_terms
decreases-meet_terms l = 2 * terms_size (terms_of (map term_of l.terms.now)) + 1

abbrev pub invariant-meet_terms-loop-term : goal.invariant-meet_terms-loop-term
invariant-meet_terms-loop-term l =
    fold with_symbol l.known.keys (terms_symbols (terms_of (map term_of (drop l.term-index l.terms))))
    ≡ fold with_symbol l.initial.known.keys (terms_symbols (terms_of (map term_of l.terms)))
