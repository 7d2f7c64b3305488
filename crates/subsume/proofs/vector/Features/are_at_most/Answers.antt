use Rattle.std.proofs.Common.{◌/◌, true, false, ⊎_elim, arith, ap, ◌∙◌}
use Rattle.std.specs.Prelude.{slice_index}
use Rattle.subsume.proofs.AboutSearch.CountingLemmas.{slot-of}
use Rattle.subsume.proofs.vector.Features.are_at_most.Goals.{then-self-index, else-self-index}
use Rattle.subsume.proofs.vector.Features.are_at_most.Goals as goal

pub loop-index-preserved : goal.loop-index-preserved
loop-index-preserved c = λ below.
    let i = c.loop-index.index in
    let mine = c.args.self.now.values in
    let others = c.args.other.now.values in
    elim c.if-self-index.branch [
      | then-self-index w ↦
          ⊎_elim
          (λ e. absurd (omega (arith, w.if-self-index.true, below true (i / 2) (omega (arith, c.loop-index-test.true)), ap (slice_index mine) e, ap (slice_index others) e)))
          (λ e. absurd (omega (arith, w.if-self-index.true, below false (i / 2) (omega (arith, c.loop-index-test.true)), ap (slice_index mine) e, ap (slice_index others) e)))
          (slot-of i)
      | else-self-index w ↦ w.are-is ∙ c.loop-index.invariant below
    ]
