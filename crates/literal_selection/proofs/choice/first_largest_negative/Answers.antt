use Rattle.std.proofs.Common.{sym, ◌∙◌, arith}
use Rattle.fol_base.specs.Lent.{lent_of}
use Rattle.kbo_order.proofs.AboutMultisets.ClauseLoops.{item-size}
use Rattle.literal_selection.proofs.SelectedLemmas.{step-larger, step-no_larger}
use Rattle.literal_selection.proofs.choice.first_largest_negative.Goals as goal
use Rattle.literal_selection.proofs.choice.first_largest_negative.Goals.{then-size-largest, else-size-largest}

pub negative_size-size-requires : goal.negative_size-size-requires
negative_size-size-requires g c =
    omega (
      arith,
      item-size (g.L.LendsLiterals.meaning c.args.literals.now) c.loop-index.index (lent_of c.literal.result) c.literal.ensures,
      c.requires,
    )

pub loop-index-preserved : goal.loop-index-preserved
loop-index-preserved g c =
    let ls = g.L.LendsLiterals.meaning c.args.literals.now in
    let l = lent_of c.literal.result in
    elim c.if-size-largest.branch [
      | then-size-largest w ↦
          let step =
          step-larger ls c.loop-index.index l c.literal.ensures
          (omega (arith, w.if-size-largest.true, c.negative_size-size.ensures, c.loop-index.invariant.largest)) in
          record {
            largest = w.largest-is ∙ c.negative_size-size.ensures ∙ sym step.0;
            found = w.found-is ∙ sym step.1;
          }
      | else-size-largest w ↦
          let step =
          step-no_larger ls c.loop-index.index l c.literal.ensures
          (omega (arith, w.if-size-largest.false, c.negative_size-size.ensures, c.loop-index.invariant.largest)) in
          record {
            largest = w.largest-is ∙ c.loop-index.invariant.largest ∙ sym step.0;
            found = w.found-is ∙ c.loop-index.invariant.found ∙ sym step.1;
          }
    ]
