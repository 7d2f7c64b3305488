use Rattle.std.proofs.Common.{◌≡◌, ◌+◌, ◌*◌, map, drop}
use Rattle.std.specs.List.{list_all}
use Rattle.tptp_source.specs.General.{tree_size, trees_size, trees_of}
use Rattle.tptp_source.specs.Shape.{tree_of}
use Rattle.tstp_lines.specs.Bindings.{is_term}
use Rattle.tstp_lines.proofs.bindings.+is_term.Given as goal

abbrev pub decreases-is_term : goal.decreases-is_term
decreases-is_term l = 2 * tree_size (tree_of l.term.now)

abbrev pub decreases-are_terms : goal.decreases-are_terms
decreases-are_terms l = 2 * trees_size (trees_of (map tree_of l.terms.now)) + 1

abbrev pub invariant-are_terms-loop-term : goal.invariant-are_terms-loop-term
invariant-are_terms-loop-term l = list_all is_term (map tree_of (drop l.term-index l.terms)) ≡ list_all is_term (map tree_of l.terms)
