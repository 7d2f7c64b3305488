-- The search: what a step of it keeps, and why it ends.
use Rattle.std.specs.Prelude.{◌≡◌, ℕ, zero, suc, ◌+◌, ◌*◌, ◌^◌, ◌<◌, ◌≤◌, Bool, ◌&&◌, List, [], ◌∷◌, length, map, is_none, IsTrue, IsFalse, if◌then◌else◌}
use Rattle.sat_core.specs.declared.trail.Assigned.{Assigned}
use Rattle.sat_core.specs.declared.trail.Slot.{Slot}
use Rattle.plain_types.specs.declared.sequence.NameLit.{NameLit}
use Rattle.plain_types.specs.Names.{same_name, has_name}
use Rattle.sat_core.specs.Clause.{PropClause}
use Rattle.sat_core.specs.Trail.{has_place, place_of, is_true, is_false}
use Rattle.sat_core.specs.State.{IsSound, AreFalse, clause_at}

abbrev pub is_decision : Assigned → Bool
is_decision e = is_none e.reason

-- What is left to try: a number in base three with a digit for each of n places of the trail, 2 where nothing stands yet, 1 for a
-- decision and 0 for an implied literal. It falls with each literal that is made true, and where a decision is turned.
abbrev pub remaining : ℕ → List Assigned → ℕ
remaining zero entries = 0
remaining (suc n) [] = 2 * 3 ^ n + remaining n []
remaining (suc n) (e ∷ entries) = (if is_decision e then 1 else 0) * 3 ^ n + remaining n entries

-- a clause all of whose literals are false
pub record IsConflict (clauses : List PropClause) (slots : List Slot) (n : ℕ) : Type 0 where
  pub within : n < length clauses
  pub all_false : AreFalse slots (clause_at clauses n)

-- literals are made true, each implied by the clauses
pub record Propagates (clauses : List PropClause) (entries : List Assigned) (slots : List Slot) (entries' : List Assigned) (slots' : List Slot) : Type 0 where
  pub sound : IsSound clauses entries' slots'
  pub names : length slots' ≡ length slots
  pub no_more : remaining (length slots) entries' ≤ remaining (length slots) entries

-- the values that the trail gives; a name without one is false
abbrev pub value_of : Slot → Bool
value_of s = has_place s && s.positive

abbrev pub values_of : List Slot → List Bool
values_of slots = map value_of slots

-- ---- propagation

-- the clause's literals but for one are false
abbrev pub OthersFalse : List Slot → PropClause → NameLit → Type 0
OthersFalse slots c l = (k : NameLit) → IsTrue (has_name k c) → IsFalse (same_name l k) → IsTrue (is_false slots k)

-- there are two lists for each name of the clause
abbrev pub HaveLists : ℕ → PropClause → Type 0
HaveLists count c = (k : NameLit) → IsTrue (has_name k c) → 2 * k.name + 2 ≤ count

-- none of the clause's literals is true
abbrev pub HasNoTrue : List Slot → PropClause → Type 0
HasNoTrue slots c = (k : NameLit) → IsTrue (has_name k c) → IsFalse (is_true slots k)

-- each of them has a value
abbrev pub AreAssigned : List Slot → PropClause → Type 0
AreAssigned slots c = (k : NameLit) → IsTrue (has_name k c) → 0 < place_of slots k
