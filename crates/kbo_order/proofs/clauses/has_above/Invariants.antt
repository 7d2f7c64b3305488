use Rattle.std.proofs.Common.{◌≡◌, ◌&&◌, false, take}
use Rattle.std.specs.List.{list_any}
use Rattle.fol_base.specs.Clause.{literal_instance}
use Rattle.fol_base.specs.Ground.{literals_instance}
use Rattle.fol_base.specs.Lent.{lent_of}
use Rattle.fol_base.specs.Multiset.{more_often}
use Rattle.fol_base.specs.Order.{equivalent_literals, literal_greater}
use Rattle.kbo_order.proofs.clauses.has_above.Given as goal

abbrev pub invariant-loop-index : goal.invariant-loop-index
invariant-loop-index g l =
    list_any
    (λ x. more_often equivalent_literals
    (literals_instance (g.S.LendsTerms.meaning l.left_bind) (g.L.LendsLiterals.meaning l.left))
    (literals_instance (g.T.LendsTerms.meaning l.right_bind) (g.M.LendsLiterals.meaning l.right)) x
    && literal_greater x (literal_instance (g.T.LendsTerms.meaning l.right_bind) (lent_of l.literal)))
    (literals_instance (g.S.LendsTerms.meaning l.left_bind) (take l.index (g.L.LendsLiterals.meaning l.left)))
    ≡ false
