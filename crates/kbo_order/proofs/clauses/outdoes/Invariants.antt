use Rattle.std.proofs.Common.{◌≡◌, true, take}
use Rattle.std.specs.List.{list_all}
use Rattle.fol_base.specs.Ground.{literals_instance}
use Rattle.fol_base.specs.Multiset.{outdone}
use Rattle.fol_base.specs.Order.{equivalent_literals, literal_greater}
use Rattle.kbo_order.proofs.clauses.outdoes.Given as goal

abbrev pub invariant-loop-index : goal.invariant-loop-index
invariant-loop-index g l =
    list_all
    (outdone equivalent_literals literal_greater
    (literals_instance (g.S.LendsTerms.meaning l.left_bind) (g.L.LendsLiterals.meaning l.left))
    (literals_instance (g.T.LendsTerms.meaning l.right_bind) (g.M.LendsLiterals.meaning l.right)))
    (literals_instance (g.T.LendsTerms.meaning l.right_bind) (take l.index (g.M.LendsLiterals.meaning l.right)))
    ≡ true
