use Rattle.std.proofs.Common.{◌∙◌}
use Rattle.fol_base.specs.Clause.{literal_instance}
use Rattle.fol_base.specs.Lent.{lent_of}
use Rattle.kbo_order.proofs.AboutMultisets.ClauseLoops.{greater-is}
use Rattle.kbo_order.proofs.clauses.is_above.Goals as goal

pub returns : goal.returns
returns g c =
    c.is_greater.ensures
    ∙ greater-is c.compare_literals_under.result
    (literal_instance (g.S.LendsTerms.meaning c.args.left_bind.now) (lent_of c.args.left))
    (literal_instance (g.T.LendsTerms.meaning c.args.right_bind.now) (lent_of c.args.right))
    c.compare_literals_under.ensures
