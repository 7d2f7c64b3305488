use Rattle.std.proofs.Common.{arith}
use Rattle.fol_base.proofs.AboutTerms.TermLemmas.{tree_size-item}
use Rattle.finite_models.proofs.AboutLoops.WalkLemmas.{slots-next, literals-next, occurrences-more}
use Rattle.finite_models.proofs.flattening.Flattening.+flatten.Goals as goal

pub terms-term-requires : goal.terms-term-requires
terms-term-requires t c =
    (omega (arith, tree_size-item _ _ _ _ c.as_slice-term-items.ensures c.loop-term-test.true c.term-item.is, c.decreases), tt)

pub terms-loop-term-preserved : goal.terms-loop-term-preserved
terms-loop-term-preserved t c = record {
  slots =
      slots-next c.as_slice-term-items.result.now c.loop-term.term-index c.term-item.result c.loop-term-test.true c.term-item.is _ _ _ _ _
      c.loop-term.invariant.slots c.loop-term.invariant.next c.in_ok-slot.ensures.slot c.in_ok-push.ensures.items;
  next =
      omega (
        arith,
        c.loop-term.invariant.next,
        c.in_ok-slot.ensures.next,
        occurrences-more c.as_slice-term-items.result.now c.loop-term.term-index c.term-item.result c.loop-term-test.true c.term-item.is,
      );
  literals =
      literals-next c.as_slice-term-items.result.now c.loop-term.term-index c.term-item.result c.loop-term-test.true c.term-item.is _ _ _ _ _
      c.loop-term.invariant.literals c.loop-term.invariant.next c.in_ok-slot.ensures.literals;
}
