use Rattle.std.proofs.Common.{ap, ◌∙◌, arith}
use Rattle.fol_base.specs.Clause.{literal_instance}
use Rattle.fol_base.specs.Lent.{lent_of}
use Rattle.fol_base.specs.Order.{equivalent_literals}
use Rattle.kbo_order.proofs.AboutMultisets.ClauseLoops.{times-more}
use Rattle.kbo_order.proofs.AboutReading.BitLemmas.{bit, byte-bit, bit-most}
use Rattle.kbo_order.proofs.clauses.occurrences.Goals as goal

pub loop-index-preserved : goal.loop-index-preserved
loop-index-preserved g c =
    let l = literal_instance (g.S.LendsTerms.meaning c.args.literal_bind.now) (lent_of c.args.literal) in
    let τ = g.T.LendsTerms.meaning c.args.bind.now in
    let m = lent_of c.literal.result in
    let more =
    times-more equivalent_literals l (literal_instance τ) (g.L.LendsLiterals.meaning c.args.literals.now) c.loop-index.index m c.literal.ensures in
    let one =
    c.from-count.ensures ∙ byte-bit c.equivalent_literals_under.result ∙ ap bit {y = equivalent_literals l (literal_instance τ m)} c.equivalent_literals_under.ensures in (
      omega (arith, more, one, c.loop-index.invariant.0),
      omega (arith, one, bit-most (equivalent_literals l (literal_instance τ m)), c.loop-index.invariant.1),
    )
