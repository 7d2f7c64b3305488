use Rattle.std.proofs.Common.{take}
use Rattle.sat_core.specs.Conflict.{is_left}
use Rattle.sat_core.proofs.AboutConflicts.AnalysisLemmas.{Keeps}
use Rattle.sat_core.proofs.minimise.list_marked.Given as goal

abbrev pub invariant-loop-literal : goal.invariant-loop-literal
invariant-loop-literal l = Keeps (is_left l.trail.slots.items l.marks.marked.items l.bound) (take l.literal-index l.marks.literals.items) l.list.items
