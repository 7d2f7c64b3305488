use Rattle.std.proofs.Common.{◌≡◌, ◌++◌, ◌+◌, ◌*◌, map, drop}
use Rattle.tptp_tree.specs.Term.{term_size, terms_size, terms_of}
use Rattle.tptp_tree.specs.Shape.{term_of}
use Rattle.signature.specs.Occurrences.{terms_symbols}
use Rattle.axiom_filter.proofs.numbering.+push_term_symbols.Given as goal

abbrev pub decreases-push_term_symbols : goal.decreases-push_term_symbols
decreases-push_term_symbols l = 2 * term_size (term_of l.term.now)

abbrev pub decreases-push_terms_symbols : goal.decreases-push_terms_symbols
decreases-push_terms_symbols l = 2 * terms_size (terms_of (map term_of l.terms.now)) + 1

abbrev pub invariant-push_terms_symbols-loop-term : goal.invariant-push_terms_symbols-loop-term
invariant-push_terms_symbols-loop-term l =
    l.symbols ++ terms_symbols (terms_of (map term_of (drop l.term-index l.terms))) ≡ l.initial.symbols ++ terms_symbols (terms_of (map term_of l.terms))
