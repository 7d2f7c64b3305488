use Rattle.std.proofs.Common.{◌≡◌, ◌*◌, length, take}
use Rattle.sat_core.specs.State.{SameClauses}
use Rattle.sat_core.proofs.solver.Solver.new.Given as goal

abbrev pub invariant-loop-number : goal.invariant-loop-number
invariant-loop-number l = record {
  lists : length l.watches.lists.items ≡ 2 * l.names;
  copies : SameClauses l.watches.copies.items (take l.number l.inputs);
}
