use Rattle.std.proofs.Common.{◌≡◌, true, take}
use Rattle.std.specs.List.{list_all}
use Rattle.sat_core.specs.Conflict.{is_covered}
use Rattle.sat_core.proofs.marks.Marks.have_others.Given as goal

abbrev pub invariant-loop-literal : goal.invariant-loop-literal
invariant-loop-literal l = list_all (is_covered l.self.marked.items l.implied) (take l.literal-index l.literals) ≡ true
