use Rattle.typed_problem.specs.Declarations.{Entries}
use Rattle.sort_checks.specs.Lent.{AreLent}
use Rattle.sort_checks.proofs.FaultLemmas.{LeftFrom}
use Rattle.sort_checks.proofs.faults.sort_fault.Given as goal

abbrev pub invariant-loop-index : goal.invariant-loop-index
invariant-loop-index l = (es : Entries) → AreLent es l.entries → LeftFrom es l.entries l.index
