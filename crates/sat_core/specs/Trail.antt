-- What the trail holds, and how it changes.
use mathlib.Core.Bool.{beq}
use Rattle.std.specs.Prelude.{◌≡◌, ℕ, ◌+◌, ◌<◌, Bool, false, not, ◌&&◌, nat_lt, nat_le, List, [], length, take, count_by, None, slice_index_or, if◌then◌else◌}
use Rattle.plain_types.specs.declared.sequence.NameLit.{NameLit}
use Rattle.sat_core.specs.declared.trail.Assigned.{Assigned}
use Rattle.sat_core.specs.declared.trail.Slot.{Slot}

abbrev pub entry_at : List Assigned → ℕ → Assigned
entry_at entries i = slice_index_or entries i (record { literal = record { positive = false; name = 0 }; reason = None })

-- a name that there is no slot for has no value
abbrev pub slot_at : List Slot → ℕ → Slot
slot_at slots v = slice_index_or slots v (record { place = 0; positive = false })

-- where the literal's name stands: its index plus one, or 0 where it has no value
abbrev pub place_of : List Slot → NameLit → ℕ
place_of slots l = (slot_at slots l.name).place

abbrev pub has_place : Slot → Bool
has_place s = nat_lt 0 s.place

abbrev pub is_true : List Slot → NameLit → Bool
is_true slots l = has_place (slot_at slots l.name) && beq (slot_at slots l.name).positive l.positive

abbrev pub is_false : List Slot → NameLit → Bool
is_false slots l = has_place (slot_at slots l.name) && not (beq (slot_at slots l.name).positive l.positive)

-- made false by one of the first so many entries
abbrev pub is_false_within : List Slot → ℕ → NameLit → Bool
is_false_within slots count l = is_false slots l && nat_le (place_of slots l) count

-- the slot of an entry at an index
abbrev pub slot_of : ℕ → Assigned → Slot
slot_of i entry = record { place = i + 1; positive = entry.literal.positive }

-- entries and slots tell the same, so that no name stands twice
pub record IsTrail (entries : List Assigned) (slots : List Slot) : Type 0 where
  pub placed : (i : ℕ) → i < length entries → slot_at slots (entry_at entries i).literal.name ≡ slot_of i (entry_at entries i)
  pub known :
      (v i : ℕ) → (slot_at slots v).place ≡ i + 1
      → (i < length entries) × ((entry_at entries i).literal ≡ record { positive = (slot_at slots v).positive; name = v })
  pub counted : count_by has_place slots ≡ length entries

pub record IsNewTrail (names : ℕ) (entries : List Assigned) (slots : List Slot) : Type 0 where
  pub trail : IsTrail entries slots
  pub empty : entries ≡ []
  pub length : length slots ≡ names

-- the slot of a name once all entries but the first so many are gone; the last value is kept
abbrev pub cut_slot : ℕ → Slot → Slot
cut_slot count s = record { place = if nat_le s.place count then s.place else 0; positive = s.positive }

pub record Cuts (count : ℕ) (entries : List Assigned) (slots : List Slot) (entries' : List Assigned) (slots' : List Slot) : Type 0 where
  pub trail : IsTrail entries' slots'
  pub entries_left : entries' ≡ take count entries
  pub slots_left : (v : ℕ) → slot_at slots' v ≡ cut_slot count (slot_at slots v)
  pub same_length : length slots' ≡ length slots
