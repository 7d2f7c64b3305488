use Rattle.std.proofs.Common.{take}
use Rattle.unifier.specs.Layout.{HasVariables}
use Rattle.unifier.proofs.layout.Layout.with_variables.Given as goal

abbrev pub invariant-loop-index : goal.invariant-loop-index
invariant-loop-index l = HasVariables (take l.index l.codes) l.layout
