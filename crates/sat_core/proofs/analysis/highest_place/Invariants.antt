use Rattle.std.proofs.Common.{◌<◌, ◌≤◌, take}
use Rattle.std.specs.Prelude.{IsTrue}
use Rattle.plain_types.specs.declared.sequence.NameLit.{NameLit}
use Rattle.plain_types.specs.Names.{has_name}
use Rattle.sat_core.specs.Trail.{place_of}
use Rattle.sat_core.proofs.analysis.highest_place.Given as goal

abbrev pub invariant-loop-literal : goal.invariant-loop-literal
invariant-loop-literal l = record {
  below : l.highest < l.bound;
  highest :
      (k : NameLit) → IsTrue (has_name k (take l.literal-index l.literals)) → place_of l.trail.slots.items k < l.bound
      → place_of l.trail.slots.items k ≤ l.highest;
}
