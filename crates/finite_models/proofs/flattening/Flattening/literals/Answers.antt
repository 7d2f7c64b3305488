use Rattle.std.proofs.Common.{arith}
use Rattle.fol_base.specs.Literal.{literal_of}
use Rattle.finite_models.specs.Flattening.{literal_slots}
use Rattle.finite_models.proofs.AboutLoops.WalkLemmas.{sum-more, flattened-next}
use Rattle.finite_models.proofs.flattening.Flattening.literals.Goals as goal

pub loop-literal-preserved : goal.loop-literal-preserved
loop-literal-preserved c = record {
  next =
      omega (
        arith,
        c.loop-literal.invariant.next,
        c.in_ok-literal.ensures.next,
        sum-more literal_slots literal_of c.args.literals.now c.loop-literal.literal-index c.literal-item.result c.loop-literal-test.true c.literal-item.is,
      );
  literals =
      flattened-next c.args.literals.now c.loop-literal.literal-index c.literal-item.result _ _ _ _ _ c.loop-literal-test.true c.literal-item.is
      c.loop-literal.invariant.literals c.loop-literal.invariant.next c.in_ok-literal.ensures.literals;
}
