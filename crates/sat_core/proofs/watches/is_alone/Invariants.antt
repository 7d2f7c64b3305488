use Rattle.std.proofs.Common.{take}
use Rattle.std.specs.Prelude.{IsTrue}
use Rattle.plain_types.specs.Names.{has_name}
use Rattle.sat_core.specs.Search.{OthersFalse}
use Rattle.sat_core.proofs.watches.is_alone.Given as goal

abbrev pub invariant-loop-literal : goal.invariant-loop-literal
invariant-loop-literal l = record {
  others : OthersFalse l.trail.slots.items (take l.literal-index l.literals) l.alone;
  met : IsTrue l.is_met → IsTrue (has_name l.alone (take l.literal-index l.literals));
}
