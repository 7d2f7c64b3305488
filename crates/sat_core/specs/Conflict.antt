-- What the analysis of a conflict keeps, and what it ends in.
use Rattle.std.specs.Prelude.{◌≡◌, ℕ, ◌-◌, ◌<◌, ◌≤◌, Bool, true, false, not, ◌&&◌, ◌||◌, nat_le, List, [], Option, None, Some, length, slice_index_or, IsTrue, IsFalse, MatchOption}
use Rattle.plain_types.specs.declared.sequence.NameLit.{NameLit}
use Rattle.plain_types.specs.Names.{same_name, has_name, opposite}
use Rattle.sat_core.specs.declared.answer.Link.{Link}
use Rattle.sat_core.specs.declared.trail.Assigned.{Assigned}
use Rattle.sat_core.specs.declared.trail.Slot.{Slot}
use Rattle.sat_core.specs.declared.analysis.Turn.{Turn}
use Rattle.sat_core.specs.Clause.{PropClause}
use Rattle.sat_core.specs.Resolution.{links_clause}
use Rattle.sat_core.specs.Trail.{entry_at, place_of, is_false, is_false_within}
use Rattle.sat_core.specs.State.{clause_at, SameLiterals, AreFalse, AreMarks, AreCovered}

-- not the literal that a clause implies
abbrev pub is_other : Option NameLit → NameLit → Bool
is_other None k = true
is_other (Some l) k = not (same_name l k)

-- the clause's other literals are false
abbrev pub OthersAreFalse : List Slot → PropClause → Option NameLit → Type 0
OthersAreFalse slots c implied = (k : NameLit) → IsTrue (has_name k c) → IsTrue (is_other implied k) → IsTrue (is_false slots k)

-- and they are added
abbrev pub AddsOthers : PropClause → Option NameLit → PropClause → PropClause → Type 0
AddsOthers c implied old new = (k : NameLit) → has_name k new ≡ (has_name k old || (has_name k c && is_other implied k))

-- each literal has a slot
abbrev pub AreWithin : ℕ → PropClause → Type 0
AreWithin names c = (k : NameLit) → IsTrue (has_name k c) → k.name < names

-- The clause that links make of a clause: its literals are the marked ones within the bound.
pub record IsReached (clauses : List PropClause) (slots : List Slot) (start : ℕ) (links : List Link) (literals : PropClause) (bound : ℕ) : Type 0 where
  pub clause : PropClause
  pub lawful : links_clause clauses (clause_at clauses start) links ≡ Some clause
  pub left : (l : NameLit) → has_name l clause ≡ (has_name l literals && nat_le (place_of slots l) bound)

-- marks of false literals, with the clause that is left of them
pub record IsResolving (clauses : List PropClause) (slots : List Slot) (start : ℕ) (links : List Link) (marked : List Bool) (literals : PropClause) (bound : ℕ) : Type 0 where
  pub marks : AreMarks marked literals
  pub names : length marked ≡ length slots
  pub false_literals : AreFalse slots literals
  pub reached : IsReached clauses slots start links literals bound

-- ---- the clause made smaller

-- the literal of a clause is marked, or the one that the clause implies
abbrev pub is_covered : List Bool → NameLit → NameLit → Bool
is_covered marked implied l = same_name implied l || slice_index_or marked l.name false

-- still marked, and within a bound
abbrev pub is_left : List Slot → List Bool → ℕ → NameLit → Bool
is_left slots marked bound l = slice_index_or marked l.name false && nat_le (place_of slots l) bound

-- The clause that links make of a clause, from whose literals within a bound some were resolved away and lost their
-- marks; the literal at the bound has its mark.
pub record IsReduced (clauses : List PropClause) (entries : List Assigned) (slots : List Slot) (start : ℕ) (links : List Link) (marked : List Bool) (literals : PropClause) (bound : ℕ) : Type 0 where
  pub marks : AreCovered marked literals
  pub names : length marked ≡ length slots
  pub false_literals : AreFalse slots literals
  pub last : IsTrue (slice_index_or marked (entry_at entries (bound - 1)).literal.name false)
  pub clause : PropClause
  pub lawful : links_clause clauses (clause_at clauses start) links ≡ Some clause
  pub left : (l : NameLit) → has_name l clause ≡ (has_name l literals && is_left slots marked bound l)

-- ---- the decision that is turned

-- the decision that the entry below a bound turns: the literals below the bound are below the decision
pub record TurnsAt (entries : List Assigned) (slots : List Slot) (literals : PropClause) (entry : Assigned) (bound : ℕ) (turn : Turn) : Type 0 where
  pub literal : turn.literal ≡ opposite entry.literal
  pub within : turn.cut < bound
  pub decision : (entry_at entries turn.cut).reason ≡ None
  pub below : (l : NameLit) → IsTrue (has_name l literals) → place_of slots l < bound → place_of slots l ≤ turn.cut

-- with a marked literal that stands there
pub record IsTurnOf (entries : List Assigned) (slots : List Slot) (literals : PropClause) (bound : ℕ) (turn : Turn) : Type 0 where
  pub turns : TurnsAt entries slots literals (entry_at entries (bound - 1)) bound turn
  pub marked : IsTrue (has_name turn.literal literals)

-- A decision that is to be turned: before it the clause's other literals are false, and its literal has no value.
pub record IsTurn (entries : List Assigned) (slots : List Slot) (clause : PropClause) (turn : Turn) : Type 0 where
  pub member : IsTrue (has_name turn.literal clause)
  pub within : turn.cut < length entries
  pub decision : (entry_at entries turn.cut).reason ≡ None
  pub later : turn.cut < place_of slots turn.literal
  pub others : (k : NameLit) → IsTrue (has_name k clause) → IsFalse (same_name turn.literal k) → IsTrue (is_false_within slots turn.cut k)

-- a clause derived from a false one by the links: it turns a decision, or is empty
pub record IsAnalysis (clauses : List PropClause) (entries : List Assigned) (slots : List Slot) (start : ℕ) (links : List Link) (clause : PropClause) (turn : Option Turn) : Type 0 where
  pub made : PropClause
  pub lawful : links_clause clauses (clause_at clauses start) links ≡ Some made
  pub same : SameLiterals clause made
  pub turns : MatchOption turn (clause ≡ []) (IsTurn entries slots clause)
