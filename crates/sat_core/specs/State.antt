-- What the solver keeps: clauses that are derived, a trail whose entries are decisions or implied, and marks.
use Rattle.std.specs.Prelude.{◌≡◌, ℕ, ◌<◌, Bool, false, ◌==◌, List, [], length, Some, slice_index_or, IsTrue, IsFalse}
use Rattle.std.specs.List.{list_any}
use Rattle.plain_types.specs.declared.sequence.NameLit.{NameLit}
use Rattle.plain_types.specs.Names.{same_name, has_name}
use Rattle.sat_core.specs.declared.answer.Chain.{Chain}
use Rattle.sat_core.specs.declared.trail.Assigned.{Assigned}
use Rattle.sat_core.specs.declared.trail.Slot.{Slot}
use Rattle.sat_core.specs.Clause.{PropClause}
use Rattle.sat_core.specs.Resolution.{chain_clause, log_clauses}
use Rattle.sat_core.specs.Trail.{IsTrail, entry_at, is_false, is_false_within}

-- the empty clause where there is none
abbrev pub clause_at : List PropClause → ℕ → PropClause
clause_at clauses n = slice_index_or clauses n []

-- one set of literals
abbrev pub SameLiterals : PropClause → PropClause → Type 0
SameLiterals c d = (l : NameLit) → has_name l c ≡ has_name l d

pub record SameClauses (cs ds : List PropClause) : Type 0 where
  pub same_count : length cs ≡ length ds
  pub same_literals : (n : ℕ) → SameLiterals (clause_at cs n) (clause_at ds n)

-- ---- clauses

-- the learned clauses are, as sets, those of the log over the inputs
pub record AreDerived (inputs learned : List PropClause) (log : List Chain) : Type 0 where
  pub made : List PropClause
  pub lawful : log_clauses inputs log ≡ Some made
  pub same : SameClauses learned made

-- the chain's clause is, as a set, the clause
pub record Derives (clauses : List PropClause) (chain : Chain) (clause : PropClause) : Type 0 where
  pub made : PropClause
  pub lawful : chain_clause clauses chain ≡ Some made
  pub same : SameLiterals clause made

-- each name is below the bound
abbrev pub AreNamed : ℕ → List PropClause → Type 0
AreNamed names clauses = (n : ℕ) (l : NameLit) → IsTrue (has_name l (clause_at clauses n)) → l.name < names

-- ---- the trail

-- the literal stands in the clause, and the clause's other literals are false within the first so many entries
pub record IsImplied (clauses : List PropClause) (slots : List Slot) (count : ℕ) (l : NameLit) (reason : ℕ) : Type 0 where
  pub within : reason < length clauses
  pub member : IsTrue (has_name l (clause_at clauses reason))
  pub others :
      (k : NameLit) → IsTrue (has_name k (clause_at clauses reason)) → IsFalse (same_name l k)
      → IsTrue (is_false_within slots count k)

-- each entry that is no decision is implied by what stands before it
abbrev pub AreImplied : List PropClause → List Assigned → List Slot → Type 0
AreImplied clauses entries slots =
    (i reason : ℕ) → i < length entries → (entry_at entries i).reason ≡ Some reason
    → IsImplied clauses slots i (entry_at entries i).literal reason

pub record IsSound (clauses : List PropClause) (entries : List Assigned) (slots : List Slot) : Type 0 where
  pub trail : IsTrail entries slots
  pub implied : AreImplied clauses entries slots
  pub named : AreNamed (length slots) clauses

-- each literal of the clause is false
abbrev pub AreFalse : List Slot → PropClause → Type 0
AreFalse slots c = (l : NameLit) → IsTrue (has_name l c) → IsTrue (is_false slots l)

-- ---- marks

-- a literal of the clause has this name, with either sign
abbrev pub mentions : ℕ → PropClause → Bool
mentions v c = list_any (λ (l : NameLit). l.name == v) c

-- each marked name is that of a literal
pub record AreCovered (marked : List Bool) (literals : PropClause) : Type 0 where
  pub covered : (v : ℕ) → IsTrue (slice_index_or marked v false) → IsTrue (mentions v literals)
  pub within : (l : NameLit) → IsTrue (has_name l literals) → l.name < length marked

-- the marked names are those of the literals
abbrev pub AreMarks : List Bool → PropClause → Type 0
AreMarks marked literals = (v : ℕ) → slice_index_or marked v false ≡ mentions v literals
