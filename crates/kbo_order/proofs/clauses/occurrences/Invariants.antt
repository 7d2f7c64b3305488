use Rattle.std.proofs.Common.{◌≡◌, ◌≤◌, take}
use Rattle.fol_base.specs.Clause.{literal_instance}
use Rattle.fol_base.specs.Ground.{literals_instance}
use Rattle.fol_base.specs.Lent.{lent_of}
use Rattle.fol_base.specs.Multiset.{times}
use Rattle.fol_base.specs.Order.{equivalent_literals}
use Rattle.kbo_order.proofs.clauses.occurrences.Given as goal

abbrev pub invariant-loop-index : goal.invariant-loop-index
invariant-loop-index g l =
    (l.count
    ≡ times equivalent_literals (literal_instance (g.S.LendsTerms.meaning l.literal_bind) (lent_of l.literal))
    (literals_instance (g.T.LendsTerms.meaning l.bind) (take l.index (g.L.LendsLiterals.meaning l.literals))))
    × (l.count ≤ l.index)
