use Rattle.std.proofs.Common.{inr, arith}
use Rattle.fol_base.specs.Instance.{instance}
use Rattle.fol_base.specs.Term.{tree_of}
use Rattle.kbo_order.proofs.AboutReading.OneWayLemmas.{greater-further, greater-everywhere, not_greater-anywhere}
use Rattle.kbo_order.proofs.greater.greater_in_blocks.Goals as goal

pub loop-start-preserved : goal.loop-start-preserved
loop-start-preserved g c =
    inr
    (greater-further c.loop-start.start c.in-Some.next
    (instance (g.S.LendsTerms.meaning c.args.left_bind.now) (tree_of c.args.left.now)) (instance (g.T.LendsTerms.meaning c.args.right_bind.now) (tree_of c.args.right.now))
    c.loop-start.invariant c.in-Some.ensures)

pub returns-in-None : goal.returns-in-None
returns-in-None g c =
    not_greater-anywhere c.loop-start.start
    (instance (g.S.LendsTerms.meaning c.args.left_bind.now) (tree_of c.args.left.now)) (instance (g.T.LendsTerms.meaning c.args.right_bind.now) (tree_of c.args.right.now))
    c.in-None.ensures

pub returns : goal.returns
returns g c =
    greater-everywhere c.loop-start.start
    (instance (g.S.LendsTerms.meaning c.args.left_bind.now) (tree_of c.args.left.now)) (instance (g.T.LendsTerms.meaning c.args.right_bind.now) (tree_of c.args.right.now))
    (omega arith) c.loop-start.invariant
