use Rattle.tstp_lines.proofs.AboutReadings.BindingLemmas.{binds-then, binds-met, binds-made}
use Rattle.tstp_lines.proofs.AboutReadings.WalkLemmas.{walks-go}
use Rattle.tstp_lines.proofs.numbers.LineNumbers.bindings.Goals as goal

pub loop-item-preserved : goal.loop-item-preserved
loop-item-preserved c =
    walks-go _ _ _ _ _ _ _ _ _ _ _ _ _ (binds-then _ _ _ _ c.loop-item-test.true c.item-item.is c.if-not-is_bind.ensures)
    c.in_ok-binding.ensures.met c.in_ok-binding.ensures.binding c.in_ok-push.ensures.ok c.loop-item.invariant

pub returns-clause-met : goal.returns-clause-met
returns-clause-met c = binds-met _ _ _ _ _ c.loop-item-test.false c.loop-item.invariant

pub returns-clause-bindings : goal.returns-clause-bindings
returns-clause-bindings c = binds-made _ _ _ _ _ c.loop-item-test.false c.loop-item.invariant
