use mathlib.Core.Bool.{beq}
use Rattle.std.proofs.Common.{arith}
use Rattle.fol_base.proofs.AboutTerms.TermLemmas.{tree_size-item}
use Rattle.subsume.proofs.AboutSearch.CountingLemmas.{measure-take_more, saturated}
use Rattle.subsume.proofs.vector.Features.+count_term.Goals as goal

pub count_terms-count_term-requires : goal.count_terms-count_term-requires
count_terms-count_term-requires t c =
    (omega (arith, tree_size-item _ _ _ _ c.as_slice-term-items.ensures c.loop-term-test.true c.term-item.is, c.decreases), tt)

pub count_terms-loop-term-preserved : goal.count_terms-loop-term-preserved
count_terms-loop-term-preserved t c = λ sign k h fits.
    let before = c.loop-term.invariant sign k h fits in
    saturated (beq c.args.positive sign) _ _ _ _ _ _ _ before (c.count_term.ensures sign k h (omega (arith, before)))
    (measure-take_more k c.as_slice-term-items.result.now c.loop-term.term-index c.term-item.result c.loop-term-test.true c.term-item.is)
