use Rattle.std.proofs.Common.{◌≡◌, ◌==◌, true, take}
use Rattle.std.specs.List.{list_all}
use Rattle.fol_base.specs.Ground.{literals_instance}
use Rattle.fol_base.specs.Multiset.{times}
use Rattle.fol_base.specs.Order.{equivalent_literals}
use Rattle.kbo_order.proofs.clauses.are_counted_alike.Given as goal

abbrev pub invariant-loop-index : goal.invariant-loop-index
invariant-loop-index g l =
    list_all
    (λ z. times equivalent_literals z (literals_instance (g.S.LendsTerms.meaning l.first_bind) (g.L.LendsLiterals.meaning l.first))
    == times equivalent_literals z (literals_instance (g.T.LendsTerms.meaning l.second_bind) (g.M.LendsLiterals.meaning l.second)))
    (literals_instance (g.S.LendsTerms.meaning l.first_bind) (take l.index (g.L.LendsLiterals.meaning l.first)))
    ≡ true
