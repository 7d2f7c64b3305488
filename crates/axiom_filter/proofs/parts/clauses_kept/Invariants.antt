use Rattle.std.proofs.Common.{◌≡◌, ◌++◌, nat_eq, map, drop}
use Rattle.std.specs.HashSet.{contains}
use Rattle.fol_base.specs.Literal.{clause_of}
use Rattle.axiom_filter.specs.Restriction.{beside}
use Rattle.axiom_filter.proofs.parts.clauses_kept.Given as goal

abbrev pub invariant-loop-number : goal.invariant-loop-number
invariant-loop-number l =
    map clause_of l.made ++ beside (contains nat_eq l.kept) (drop l.number l.origins) (drop l.number (map clause_of l.clauses))
    ≡ beside (contains nat_eq l.kept) l.origins (map clause_of l.clauses)
