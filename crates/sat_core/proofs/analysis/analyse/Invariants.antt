use Rattle.std.proofs.Common.{◌≡◌, ◌≤◌, length}
use Rattle.sat_core.specs.Conflict.{IsResolving}
use Rattle.sat_core.specs.Known.{known}
use Rattle.sat_core.proofs.analysis.analyse.Given as goal

abbrev pub invariant-loop-bound : goal.invariant-loop-bound
invariant-loop-bound l = record {
  start : l.conflict.start ≡ l.start;
  bound : l.bound ≤ length l.trail.entries.items;
  resolving :
      IsResolving (known l.clauses) l.trail.slots.items l.start l.conflict.links.items l.marks.marked.items l.marks.literals.items
      l.bound;
}

abbrev pub decreases-loop-bound : goal.decreases-loop-bound
decreases-loop-bound l = l.bound
