use Rattle.std.proofs.Common.{arith, true, false}
use Rattle.tptp_tree.proofs.SizeLemmas.{formula-item-is}
use Rattle.clausal_form.proofs.AboutCounts.CountingLemmas.{count-then}
use Rattle.clausal_form.proofs.counting.+skolem_counts.Goals as goal

pub all_skolem_counts-skolem_counts-requires : goal.all_skolem_counts-skolem_counts-requires
all_skolem_counts-skolem_counts-requires t c =
    (omega (arith, formula-item-is _ _ _ c.loop-formula-test.true c.formula-item.is, c.decreases), tt)

pub all_skolem_counts-loop-formula-preserved : goal.all_skolem_counts-loop-formula-preserved
all_skolem_counts-loop-formula-preserved t c = (
  omega (
    arith,
    count-then _ _ _ true c.loop-formula-test.true c.formula-item.is,
    c.in_ok-skolem_counts.ensures.positive,
    c.in_ok-total.ensures.positive,
    c.loop-formula.invariant.0,
  ),
  omega (
    arith,
    count-then _ _ _ false c.loop-formula-test.true c.formula-item.is,
    c.in_ok-skolem_counts.ensures.negative,
    c.in_ok-total.ensures.negative,
    c.loop-formula.invariant.1,
  ),
)
