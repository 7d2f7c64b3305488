use Rattle.std.proofs.Common.{◌&&◌, sym, ◌∙◌, arith}
use Rattle.fol_base.specs.Clause.{TreeLiteral, literal_instance}
use Rattle.fol_base.specs.Ground.{literals_instance}
use Rattle.fol_base.specs.Lent.{lent_of}
use Rattle.fol_base.specs.Multiset.{more_often}
use Rattle.fol_base.specs.Order.{equivalent_literals, literal_greater}
use Rattle.kbo_order.proofs.AboutMultisets.ClauseLoops.{any-more, any-stop, mapped-size}
use Rattle.kbo_order.proofs.clauses.has_above.Goals as goal

pub is_outdoing-requires-clause-other_size : goal.is_outdoing-requires-clause-other_size
is_outdoing-requires-clause-other_size g c =
    omega (
      arith,
      mapped-size (g.S.LendsTerms.meaning c.args.left_bind.now) (g.L.LendsLiterals.meaning c.args.left.now) c.loop-index.index
          (lent_of c.literal.result) c.literal.ensures,
      c.requires.left_size,
    )

pub returns-then-is_outdoing : goal.returns-then-is_outdoing
returns-then-is_outdoing g c =
    let left = literals_instance (g.S.LendsTerms.meaning c.args.left_bind.now) (g.L.LendsLiterals.meaning c.args.left.now) in
    let right = literals_instance (g.T.LendsTerms.meaning c.args.right_bind.now) (g.M.LendsLiterals.meaning c.args.right.now) in
    let literal = literal_instance (g.T.LendsTerms.meaning c.args.right_bind.now) (lent_of c.args.literal) in
    any-stop (λ (x : TreeLiteral). more_often equivalent_literals left right x && literal_greater x literal)
    (literal_instance (g.S.LendsTerms.meaning c.args.left_bind.now)) (g.L.LendsLiterals.meaning c.args.left.now)
    c.loop-index.index (lent_of c.literal.result) c.literal.ensures
    (sym c.is_outdoing.ensures ∙ c.if-is_outdoing.true)

pub loop-index-preserved : goal.loop-index-preserved
loop-index-preserved g c =
    let left = literals_instance (g.S.LendsTerms.meaning c.args.left_bind.now) (g.L.LendsLiterals.meaning c.args.left.now) in
    let right = literals_instance (g.T.LendsTerms.meaning c.args.right_bind.now) (g.M.LendsLiterals.meaning c.args.right.now) in
    let literal = literal_instance (g.T.LendsTerms.meaning c.args.right_bind.now) (lent_of c.args.literal) in
    any-more (λ (x : TreeLiteral). more_often equivalent_literals left right x && literal_greater x literal)
    (literal_instance (g.S.LendsTerms.meaning c.args.left_bind.now)) (g.L.LendsLiterals.meaning c.args.left.now)
    c.loop-index.index (lent_of c.literal.result) c.literal.ensures c.loop-index.invariant
    (sym c.is_outdoing.ensures ∙ c.if-is_outdoing.false)
