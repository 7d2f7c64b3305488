use Rattle.skolem.proofs.AboutBindings.ListLemmas.{take-kept, longer-kept}
use Rattle.skolem.proofs.AboutFormulas.FormLemmas.{variables-then}
use Rattle.skolem.proofs.forms.bind_variables.Goals as goal

pub loop-name-preserved : goal.loop-name-preserved
loop-name-preserved c = (
  variables-then c.args.names.now c.loop-name.name-index c.name-item.result c.loop-name.progress c.bind_variable.new.self _
      c.loop-name-test.true c.name-item.is c.in_ok-bind_variable.ensures.bindings c.in_ok-bind_variable.ensures.variables
      c.in_ok-bind_variable.ensures.arities c.loop-name.invariant.0,
  (
    take-kept c.args.progress.now.bindings c.loop-name.progress.bindings _ _ c.loop-name.invariant.1.0
        c.in_ok-bind_variable.ensures.bindings c.loop-name.invariant.1.1,
    longer-kept c.args.progress.now.bindings c.loop-name.progress.bindings _ _ c.in_ok-bind_variable.ensures.bindings
        c.loop-name.invariant.1.1,
  ),
)
