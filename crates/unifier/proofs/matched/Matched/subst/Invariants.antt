use Rattle.std.proofs.Common.{◌≡◌, map}
use Rattle.fol_base.specs.Canonical.{terms_from}
use Rattle.fol_base.specs.Term.{tree_of}
use Rattle.unifier.specs.Matching.{by_pairs}
use Rattle.unifier.proofs.matched.Matched.subst.Given as goal

abbrev pub invariant-loop-variable : goal.invariant-loop-variable
invariant-loop-variable l = map tree_of l.items.items ≡ terms_from 0 l.variable (by_pairs l.self)
