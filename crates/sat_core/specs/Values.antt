-- The values of literals by their codes.
use Rattle.std.specs.Prelude.{◌≡◌, ℕ, List, slice_index_or, IsTrue}
use Rattle.plain_types.specs.declared.sequence.NameLit.{NameLit}
use Rattle.sat_core.specs.declared.trail.Slot.{Slot}
use Rattle.sat_core.specs.declared.values.Value.{Value}
use Rattle.sat_core.specs.declared.values.Value.TheVariants as value
use Rattle.sat_core.specs.Trail.{is_false}
use Rattle.sat_core.specs.Literals.{code_of}

-- the value at a code; where there is none, it is open
abbrev pub value_at : List Value → ℕ → Value
value_at values c = slice_index_or values c value.Open

-- what is false by its value is false by the slots
abbrev pub AreSlotValues : List Value → List Slot → Type 0
AreSlotValues values slots = (l : NameLit) → value_at values (code_of l) ≡ value.False → IsTrue (is_false slots l)
