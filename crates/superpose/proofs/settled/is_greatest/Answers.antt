use Rattle.std.proofs.Common.{true, false, refl, sym, ◌∙◌, arith}
use Rattle.fol_base.specs.Lent.{lent_of}
use Rattle.kbo_order.proofs.AboutMultisets.ClauseLoops.{greater-is, item-size}
use Rattle.superpose.proofs.AboutSites.SettledLemmas.{greatest-itself, greatest-more, greatest-done, greatest-fails}
use Rattle.superpose.proofs.settled.is_greatest.Goals as goal
use Rattle.superpose.proofs.settled.is_greatest.Goals.{else-other-index-via-then-other-index+else-not-is_greater, else-other-index-via-else-other-index}

pub compare_literals-requires-clause-left_size : goal.compare_literals-requires-clause-left_size
compare_literals-requires-clause-left_size c =
    let low = item-size c.args.literals.now c.args.index (lent_of c.literal-literal.result) c.literal-literal.ensures in
    omega (arith, low, c.requires.size)

pub compare_literals-requires-clause-right_size : goal.compare_literals-requires-clause-right_size
compare_literals-requires-clause-right_size c =
    let low = item-size c.args.literals.now c.loop-other.other (lent_of c.literal.result) c.literal.ensures in
    omega (arith, low, c.requires.size)

pub returns-then-not-is_greater : goal.returns-then-not-is_greater
returns-then-not-is_greater c =
    let l = lent_of c.literal-literal.result in
    let m = lent_of c.literal.result in
    greatest-fails c.args.literals.now c.args.index c.loop-other.other l m false c.literal-literal.ensures c.literal.ensures c.if-other-index.true
    (sym (greater-is c.compare_literals.result l m c.compare_literals.ensures) ∙ sym c.if-not-is_greater.ensures) refl

pub loop-other-preserved : goal.loop-other-preserved
loop-other-preserved c =
    let l = lent_of c.literal-literal.result in
    elim c.else-other-index.branch [
      | else-other-index-via-then-other-index+else-not-is_greater w ↦
          greatest-more c.args.literals.now c.args.index l c.loop-other.other (lent_of w.literal.result) w.literal.ensures
          (sym (greater-is w.compare_literals.result l (lent_of w.literal.result) w.compare_literals.ensures) ∙ sym w.if-not-is_greater.ensures)
          c.loop-other.invariant
      | else-other-index-via-else-other-index w ↦
          greatest-itself c.args.literals.now c.args.index l c.loop-other.other w.if-other-index.false c.loop-other.invariant
    ]

pub returns : goal.returns
returns c =
    greatest-done c.args.literals.now c.args.index (lent_of c.literal-literal.result) c.loop-other.other true c.literal-literal.ensures
    (omega (arith, c.loop-other-test.false, c.count-other-end.ensures)) c.loop-other.invariant refl
