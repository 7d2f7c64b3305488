use Rattle.skolem.proofs.AboutBindings.OrderLemmas.{Found}
use Rattle.skolem.proofs.progress.once_each.Given as goal

abbrev pub invariant-loop-variable : goal.invariant-loop-variable
invariant-loop-variable l = Found l.variables l.sorted l.variable-index l.next l.found.items
