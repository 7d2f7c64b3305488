use Rattle.std.proofs.Common.{sym, ◌∙◌}
use Rattle.std.proofs.lemmas.List.{get_or_read}
use Rattle.sat_core.proofs.AboutTrails.PropagationLemmas.{others_met, others_wrong}
use Rattle.sat_core.proofs.copies.open_index.Goals as goal
use Rattle.sat_core.proofs.copies.open_index.Goals.{else-not-is_surely_false-via-then-not-is_surely_false+else-not-is, else-not-is_surely_false-via-else-not-is_surely_false}

pub loop-index-preserved : goal.loop-index-preserved
loop-index-preserved c =
    let slots = c.args.trail.now.slots.items in
    let xs = c.args.literals.now in
    let i = c.loop-index.index in
    let x = c.index-literals-index.result in
    let read = get_or_read xs i x c.loop-index-test.true c.index-literals-index.is x in
    elim c.else-not-is_surely_false.branch [
      | else-not-is_surely_false-via-then-not-is_surely_false+else-not-is w ↦
          others_met slots xs i c.args.first x c.loop-index-test.true read c.loop-index.invariant (sym w.is.ensures ∙ w.if-not-is.false)
      | else-not-is_surely_false-via-else-not-is_surely_false w ↦
          others_wrong slots xs i c.args.first x c.loop-index-test.true read c.loop-index.invariant (c.is_surely_false.ensures w.if-not-is_surely_false.false)
    ]
