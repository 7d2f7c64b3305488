use Rattle.std.proofs.Common.{arith}
use Rattle.sat_core.proofs.AboutTrails.TrailLemmas.{free_trail}
use Rattle.sat_core.proofs.trail.Trail.new.Goals as goal

pub returns : goal.returns
returns c = record {
  trail = free_trail _ _ c.new.ensures.items c.loop-name.invariant.free;
  empty = c.new.ensures.items;
  length = omega (arith, c.loop-name.invariant.count);
}
