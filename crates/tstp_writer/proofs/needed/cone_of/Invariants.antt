use Rattle.std.proofs.Common.{◌+◌, ◌≤◌}
use Rattle.tstp_writer.specs.Marks.{IsPassed}
use Rattle.tstp_writer.proofs.needed.cone_of.Given as goal

abbrev pub invariant-loop-left : goal.invariant-loop-left
invariant-loop-left g l = (l.left ≤ l.last + 1) × IsPassed g.S.HasStep.meaning l.items l.last l.left l.marks

abbrev pub decreases-loop-left : goal.decreases-loop-left
decreases-loop-left g l = l.left
