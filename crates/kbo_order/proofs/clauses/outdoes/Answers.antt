use Rattle.std.proofs.Common.{sym, ◌∙◌, arith}
use Rattle.fol_base.specs.Clause.{literal_instance}
use Rattle.fol_base.specs.Ground.{literals_instance}
use Rattle.fol_base.specs.Lent.{lent_of}
use Rattle.fol_base.specs.Multiset.{outdone}
use Rattle.fol_base.specs.Order.{equivalent_literals, literal_greater}
use Rattle.kbo_order.proofs.AboutMultisets.ClauseLoops.{all-more, all-stop, mapped-size}
use Rattle.kbo_order.proofs.clauses.outdoes.Goals as goal

pub is_outdone-requires-clause-size : goal.is_outdone-requires-clause-size
is_outdone-requires-clause-size g c =
    omega (
      arith,
      mapped-size (g.T.LendsTerms.meaning c.args.right_bind.now) (g.M.LendsLiterals.meaning c.args.right.now) c.loop-index.index
          (lent_of c.literal.result) c.literal.ensures,
      c.requires.right_size,
    )

pub returns-then-not-is_outdone : goal.returns-then-not-is_outdone
returns-then-not-is_outdone g c =
    let left = literals_instance (g.S.LendsTerms.meaning c.args.left_bind.now) (g.L.LendsLiterals.meaning c.args.left.now) in
    let right = literals_instance (g.T.LendsTerms.meaning c.args.right_bind.now) (g.M.LendsLiterals.meaning c.args.right.now) in
    all-stop (outdone equivalent_literals literal_greater left right)
    (literal_instance (g.T.LendsTerms.meaning c.args.right_bind.now)) (g.M.LendsLiterals.meaning c.args.right.now)
    c.loop-index.index (lent_of c.literal.result) c.literal.ensures
    (sym c.is_outdone.ensures ∙ c.if-not-is_outdone.true)

pub loop-index-preserved : goal.loop-index-preserved
loop-index-preserved g c =
    let left = literals_instance (g.S.LendsTerms.meaning c.args.left_bind.now) (g.L.LendsLiterals.meaning c.args.left.now) in
    let right = literals_instance (g.T.LendsTerms.meaning c.args.right_bind.now) (g.M.LendsLiterals.meaning c.args.right.now) in
    all-more (outdone equivalent_literals literal_greater left right)
    (literal_instance (g.T.LendsTerms.meaning c.args.right_bind.now)) (g.M.LendsLiterals.meaning c.args.right.now)
    c.loop-index.index (lent_of c.literal.result) c.literal.ensures c.loop-index.invariant
    (sym c.is_outdone.ensures ∙ c.if-not-is_outdone.false)
