use Rattle.std.proofs.Common.{◌≡◌}
use Rattle.sat_core.specs.Conflict.{IsReduced}
use Rattle.sat_core.specs.Known.{known}
use Rattle.sat_core.proofs.analysis.Conflict.minimise.Given as goal

abbrev pub invariant-loop-index : goal.invariant-loop-index
invariant-loop-index l = record {
  start : l.self.start ≡ l.initial.self.start;
  literals : l.marks.literals.items ≡ l.initial.marks.literals.items;
  reduced :
      IsReduced (known l.clauses) l.trail.entries.items l.trail.slots.items l.self.start l.self.links.items l.marks.marked.items
      l.marks.literals.items l.bound;
}
