use Rattle.std.proofs.Common.{◌+◌, ◌*◌, map}
use Rattle.tptp_tree.specs.Term.{term_size, terms_size, terms_of}
use Rattle.tptp_tree.specs.Shape.{term_of}
use Rattle.tstp_lines.proofs.AboutReadings.NumberLemmas.{Walk}
use Rattle.tstp_lines.proofs.numbers.LineNumbers.+term.Given as goal

abbrev pub decreases-term : goal.decreases-term
decreases-term l = 2 * term_size (term_of l.term.now)

abbrev pub decreases-terms : goal.decreases-terms
decreases-terms l = 2 * terms_size (terms_of (map term_of l.terms.now)) + 1

abbrev pub invariant-terms-loop-term : goal.invariant-terms-loop-term
invariant-terms-loop-term l = Walk l.initial.self l.self l.terms l.term-index l.trees
