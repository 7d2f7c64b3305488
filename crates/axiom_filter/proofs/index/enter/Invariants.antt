use Rattle.std.proofs.Common.{take}
use Rattle.axiom_filter.proofs.AboutTables.IndexLemmas.{Entered}
use Rattle.axiom_filter.proofs.index.enter.Given as goal

abbrev pub invariant-loop-symbol : goal.invariant-loop-symbol
invariant-loop-symbol l = Entered l.place (take l.symbol-index l.row) l.initial.index l.index
