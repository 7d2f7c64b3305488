use Rattle.std.proofs.Common.{◌+◌, ◌*◌, map}
use Rattle.tptp_source.specs.General.{tree_size, trees_size, trees_of}
use Rattle.tptp_source.specs.Shape.{tree_of}
use Rattle.tstp_lines.proofs.AboutReadings.BindingLemmas.{GeneralWalk}
use Rattle.tstp_lines.proofs.numbers.LineNumbers.+general_term.Given as goal

abbrev pub decreases-general_term : goal.decreases-general_term
decreases-general_term l = 2 * tree_size (tree_of l.term.now)

abbrev pub decreases-general_terms : goal.decreases-general_terms
decreases-general_terms l = 2 * trees_size (trees_of (map tree_of l.terms.now)) + 1

abbrev pub invariant-general_terms-loop-term : goal.invariant-general_terms-loop-term
invariant-general_terms-loop-term l = GeneralWalk l.initial.self l.self l.terms l.term-index l.trees
