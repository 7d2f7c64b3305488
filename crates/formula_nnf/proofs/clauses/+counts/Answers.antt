use Rattle.std.proofs.Common.{arith}
use Rattle.tptp_tree.proofs.SizeLemmas.{formula-item-is}
use Rattle.formula_nnf.proofs.CappedLemmas.{joined-both, rest-step, stays-capped}
use Rattle.formula_nnf.proofs.clauses.+counts.Goals as goal

pub pair-returns : goal.pair-returns
pair-returns t c = joined-both c.args.listed _ _ _ _ _ c.counts-first.ensures c.counts-second.ensures c.joined.ensures

pub several-counts-requires : goal.several-counts-requires
several-counts-requires t c =
    (omega (arith, formula-item-is _ _ _ c.loop-formula-test.true c.formula-item.is, c.decreases), tt)

pub several-loop-formula-preserved : goal.several-loop-formula-preserved
several-loop-formula-preserved t c = (
  stays-capped _ _ c.joined-total.ensures,
  rest-step c.args.listed _ _ c.args.positive _ _ _ _ _ c.loop-formula-test.true c.formula-item.is
      c.counts.ensures c.joined-total.ensures c.loop-formula.invariant.1,
)
