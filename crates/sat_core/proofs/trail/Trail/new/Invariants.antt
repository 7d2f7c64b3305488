use Rattle.std.proofs.Common.{◌≡◌, length}
use Rattle.sat_core.proofs.AboutTrails.TrailLemmas.{AreFree}
use Rattle.sat_core.proofs.trail.Trail.new.Given as goal

abbrev pub invariant-loop-name : goal.invariant-loop-name
invariant-loop-name l = record {
  free : AreFree l.slots.items;
  count : length l.slots.items ≡ l.name;
}
