use Rattle.std.proofs.Common.{◌+◌, ◌*◌, map, drop}
use Rattle.fol_base.specs.Tree.{trees_of}
use Rattle.fol_base.specs.Term.{tree_of}
use Rattle.unifier.specs.Resolving.{AreTermsResolved}
use Rattle.unifier.proofs.layout.Layout.+resolve.Given as goal

abbrev pub decreases-resolve_variable : goal.decreases-resolve_variable
decreases-resolve_variable l = 3 * l.levels + 1

abbrev pub decreases-resolve_bound : goal.decreases-resolve_bound
decreases-resolve_bound l = 3 * l.levels

abbrev pub decreases-resolve_term : goal.decreases-resolve_term
decreases-resolve_term l = 3 * l.levels + 2

abbrev pub decreases-resolve_terms : goal.decreases-resolve_terms
decreases-resolve_terms l = 3 * l.levels + 3

abbrev pub invariant-resolve_terms-loop-index : goal.invariant-resolve_terms-loop-index
invariant-resolve_terms-loop-index l =
    AreTermsResolved l.apart l.equations l.fn.self l.self l.bound.side (trees_of (map tree_of (drop l.index l.bound.terms.now))) l.list
