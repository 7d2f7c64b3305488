use Rattle.std.proofs.Common.{◌≡◌}
use Rattle.sat_core.proofs.analysis.Conflict.see.Given as goal

abbrev pub invariant-loop-literal : goal.invariant-loop-literal
invariant-loop-literal l = record {
  start : l.self.start ≡ l.initial.self.start;
  links : l.self.links.items ≡ l.initial.self.links.items;
}
