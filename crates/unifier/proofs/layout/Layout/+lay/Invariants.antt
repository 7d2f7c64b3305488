use Rattle.std.proofs.Common.{◌+◌, ◌*◌, map, drop}
use Rattle.fol_base.specs.Tree.{tree_size, trees_size, trees_of}
use Rattle.fol_base.specs.Term.{tree_of}
use Rattle.unifier.specs.Layout.{TermsLaidOut}
use Rattle.unifier.proofs.layout.Layout.+lay.Given as goal

abbrev pub decreases-lay_term : goal.decreases-lay_term
decreases-lay_term l = 2 * tree_size (tree_of l.term.now)

abbrev pub decreases-lay_terms : goal.decreases-lay_terms
decreases-lay_terms l = 2 * trees_size (trees_of (map tree_of l.terms.now)) + 1

abbrev pub invariant-lay_terms-loop-index : goal.invariant-lay_terms-loop-index
invariant-lay_terms-loop-index l =
    TermsLaidOut l.initial.self l.self l.apart l.side (trees_of (map tree_of (drop l.index l.terms))) l.list
