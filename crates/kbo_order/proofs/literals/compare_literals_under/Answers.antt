use Rattle.std.proofs.Common.{sym, ◌∙◌}
use Rattle.fol_base.specs.Clause.{literal_instance}
use Rattle.fol_base.specs.Lent.{lent_of}
use Rattle.kbo_order.proofs.AboutMultisets.LiteralLemmas.{same-sign, left-decides, right-decides, equal-is, greater-compared, less-compared}
use Rattle.kbo_order.proofs.literals.compare_literals_under.Goals as goal

pub returns-then-is_equal : goal.returns-then-is_equal
returns-then-is_equal g c =
    let l = literal_instance (g.S.LendsTerms.meaning c.args.left_bind.now) (lent_of c.args.left) in
    let m = literal_instance (g.T.LendsTerms.meaning c.args.right_bind.now) (lent_of c.args.right) in
    left-decides c.compare_under.result l m (same-sign l.positive m.positive c.if-has_one_sign.true)
    (equal-is c.compare_under-rights.result l.right m.right c.compare_under-rights.ensures (sym c.is_equal.ensures ∙ c.if-is_equal.true))
    c.compare_under.ensures

pub returns-then-is_equal-2 : goal.returns-then-is_equal-2
returns-then-is_equal-2 g c =
    let l = literal_instance (g.S.LendsTerms.meaning c.args.left_bind.now) (lent_of c.args.left) in
    let m = literal_instance (g.T.LendsTerms.meaning c.args.right_bind.now) (lent_of c.args.right) in
    right-decides c.compare_under-rights.result l m (same-sign l.positive m.positive c.if-has_one_sign-2.true)
    (equal-is c.compare_under-lefts.result l.left m.left c.compare_under-lefts.ensures
    (sym c.is_equal-then-has_one_sign-2.ensures ∙ c.if-is_equal-2.true))
    c.compare_under-rights.ensures

pub returns-then-is_greater-2 : goal.returns-then-is_greater-2
returns-then-is_greater-2 g c =
    greater-compared c.compare_under-lefts.result c.compare_under-rights.result
    (literal_instance (g.S.LendsTerms.meaning c.args.left_bind.now) (lent_of c.args.left))
    (literal_instance (g.T.LendsTerms.meaning c.args.right_bind.now) (lent_of c.args.right))
    c.compare_under-lefts.ensures (sym c.is_greater.ensures ∙ c.if-is_greater.true)
    c.compare_under-rights.ensures (sym c.is_greater-then-is_greater.ensures ∙ c.if-is_greater-2.true)

pub returns-then-is_less-2 : goal.returns-then-is_less-2
returns-then-is_less-2 g c =
    less-compared c.compare_under-lefts.result c.compare_under-rights.result
    (literal_instance (g.S.LendsTerms.meaning c.args.left_bind.now) (lent_of c.args.left))
    (literal_instance (g.T.LendsTerms.meaning c.args.right_bind.now) (lent_of c.args.right))
    c.compare_under-lefts.ensures (sym c.is_less.ensures ∙ c.if-is_less.true)
    c.compare_under-rights.ensures (sym c.is_less-then-is_less.ensures ∙ c.if-is_less-2.true)
