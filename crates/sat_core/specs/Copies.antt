-- The copies of clauses, and what a look at one tells.
use Rattle.std.specs.Prelude.{ℕ, ◌<◌, List, length, IsTrue}
use Rattle.plain_types.specs.declared.sequence.NameLit.{NameLit}
use Rattle.plain_types.specs.Names.{has_name}
use Rattle.sat_core.specs.declared.trail.Slot.{Slot}
use Rattle.sat_core.specs.declared.copies.Look.{Look}
use Rattle.sat_core.specs.declared.copies.Look.TheVariants.{True, Moved, Closed}
use Rattle.sat_core.specs.declared.watches.Visited.{Visited}
use Rattle.sat_core.specs.declared.watches.Visited.TheVariants as visited
use Rattle.sat_core.specs.Clause.{PropClause}
use Rattle.sat_core.specs.State.{clause_at}
use Rattle.sat_core.specs.Search.{OthersFalse}

-- the literal is the clause's, and the clause's other literals are false
pub record IsAlone (slots : List Slot) (c : PropClause) (l : NameLit) : Type 0 where
  pub member : IsTrue (has_name l c)
  pub others : OthersFalse slots c l

-- where a look says that a clause is closed, it is
abbrev pub IsLook : List Slot → PropClause → Look → Type 0
IsLook slots c (True l) = Unit {0}
IsLook slots c (Moved l k) = Unit {0}
IsLook slots c (Closed l) = IsAlone slots c l

-- the same of a clause by its number
pub record IsAloneAt (slots : List Slot) (clauses : List PropClause) (n : ℕ) (l : NameLit) : Type 0 where
  pub within : n < length clauses
  pub alone : IsAlone slots (clause_at clauses n) l

abbrev pub IsVisit : List Slot → List PropClause → Visited → Type 0
IsVisit slots clauses visited.Kept = Unit {0}
IsVisit slots clauses visited.Moved = Unit {0}
IsVisit slots clauses (visited.Closed closed) = IsAloneAt slots clauses closed.number closed.other
