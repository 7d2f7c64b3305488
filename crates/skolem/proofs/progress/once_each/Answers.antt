use Rattle.std.proofs.Common.{get_or, arith}
use Rattle.skolem.proofs.AboutFormulas.SymbolLemmas.{same-item}
use Rattle.skolem.proofs.AboutBindings.OrderLemmas.{found-skip, found-again, found-more, found-all}
use Rattle.skolem.proofs.progress.once_each.Goals.{then-variable-next-via-then-variable-next, then-variable-next-via-else-variable-next+then-variable-variables}
use Rattle.skolem.proofs.progress.once_each.Goals as goal

pub loop-variable-preserved : goal.loop-variable-preserved
loop-variable-preserved c =
    found-more c.args.variables c.args.sorted.now c.loop-variable.variable-index c.loop-variable.next
    (get_or c.args.sorted.now c.loop-variable.variable-index 0) c.loop-variable.found.items c.push.new.self.items
    c.requires.sorted c.loop-variable-test.true (same-item c.args.sorted.now c.loop-variable.variable-index 0 _ c.loop-variable-test.true)
    (omega (arith, c.if-variable-next.false)) (omega (arith, c.if-variable-variables.false)) (c.in_ok-push.ensures.items) c.loop-variable.invariant

pub loop-variable-preserved-then-variable-next : goal.loop-variable-preserved-then-variable-next
loop-variable-preserved-then-variable-next c =
    elim c.then-variable-next.branch [
      | then-variable-next-via-then-variable-next w ↦
          found-again c.args.variables c.args.sorted.now c.loop-variable.variable-index c.loop-variable.next
          (get_or c.args.sorted.now c.loop-variable.variable-index 0) c.loop-variable.found.items c.loop-variable-test.true
          (same-item c.args.sorted.now c.loop-variable.variable-index 0 _ c.loop-variable-test.true)
          (omega (arith, w.if-variable-next)) c.loop-variable.invariant
      | then-variable-next-via-else-variable-next+then-variable-variables w ↦
          found-skip c.args.variables c.args.sorted.now c.loop-variable.variable-index c.loop-variable.next
          (get_or c.args.sorted.now c.loop-variable.variable-index 0) c.loop-variable.found.items c.loop-variable-test.true
          (same-item c.args.sorted.now c.loop-variable.variable-index 0 _ c.loop-variable-test.true)
          (omega (arith, w.if-variable-variables)) c.loop-variable.invariant
    ]

pub returns : goal.returns
returns c =
    found-all c.args.variables c.args.sorted.now c.loop-variable.variable-index c.loop-variable.next c.loop-variable.found.items
    (omega (arith, c.loop-variable-test.false)) c.loop-variable.invariant
