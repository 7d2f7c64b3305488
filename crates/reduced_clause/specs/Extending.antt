-- How a reduced clause goes on by one more move.
use Rattle.std.specs.Prelude.{◌≡◌, ℕ, ◌+◌, Bool, false, ◌==◌, nat_lt, List, [], ◌∷◌, ◌++◌, length, Option, None, Some, if◌then◌else◌}
use Rattle.fol_base.specs.Clause.{TreeClause}
use Rattle.fol_base.specs.Literal.{clause_of}
use Rattle.kernel_steps.specs.Parents.{Parents}
use Rattle.kernel_steps.specs.Lines.{AreLines, clause_parents, clauses_named}
use Rattle.kernel_steps.specs.Moves.{Move, MovesTo}
use Rattle.kernel_steps.specs.declared.step.TheConstants.{CLAUSE_NUMBERS}
use Rattle.kernel_steps.specs.declared.step.Line.{Line}
use Rattle.kernel_steps.specs.declared.step.Reduced.{Reduced}
use Rattle.reduced_clause.specs.Reduced.{IsReduced, BindsSymbolsOf, last_clause, with_number}

-- The number of the last line; where there is none, that of the clause that was handed in.
abbrev pub last_number : List Line → ℕ
last_number lines = CLAUSE_NUMBERS + length lines

-- clauses by their numbers, and one more clause that has a number of its own
abbrev pub parents_with : Parents → ℕ → TreeClause → Parents
parents_with clauses number c n =
    if nat_lt n CLAUSE_NUMBERS
    then clauses n
    else (if n == number then Some (record { clause = c; introduces = false }) else None)

-- the number of a unit, if one is used
abbrev pub unit_numbers : Option ℕ → List ℕ
unit_numbers None = []
unit_numbers (Some n) = n ∷ []

-- it is noted, unless it is there
abbrev pub noted : Option ℕ → List ℕ → List ℕ
noted None ns = ns
noted (Some n) ns = with_number n ns

-- Lines that make one move: they go on from a clause that has a number, name the unit of the move and no other, and lead to what the move
-- gives.
pub record AreLinesOfMove
    (is_predicate : ℕ → Bool) (clauses : ℕ → Option TreeClause) (c : TreeClause) (number : ℕ) (m : Move) (lines : List Line) : Type 0 where
  pub are_lines : AreLines is_predicate (number + 1) (parents_with (clause_parents clauses) number c) lines
  pub named : clauses_named lines ≡ unit_numbers m.by
  pub symbols : BindsSymbolsOf clauses c (unit_numbers m.by) lines
  pub ends : m.gives ≡ last_clause c lines
  pub moved : MovesTo is_predicate clauses c m

-- What a reduced clause becomes by further lines, with the unit noted that they use, if they use one.
pub record IsExtended (old : Reduced) (by : Option ℕ) (further : List Line) (new : Reduced) : Type 0 where
  pub lines : new.lines ≡ old.lines ++ further
  pub used : new.used ≡ noted by old.used
  pub clause : clause_of new.clause ≡ last_clause (clause_of old.clause) further

-- A reduced clause goes on by a move, by the unit of a number or by none.
pub record GoesOn (is_predicate : ℕ → Bool) (clauses : ℕ → Option TreeClause) (by : Option ℕ) (old new : Reduced) : Type 0 where
  pub move : Move
  pub lines : List Line
  pub of_unit : move.by ≡ by
  pub makes : AreLinesOfMove is_predicate clauses (clause_of old.clause) (last_number old.lines) move lines
  pub extended : IsExtended old by lines new

-- ---- laws

-- where the lines make a move, that is a reduced clause again
abbrev pub MovesExtend : Type 0
MovesExtend =
    (is_predicate : ℕ → Bool) (clauses : ℕ → Option TreeClause) (c : TreeClause) (old new : Reduced) (m : Move) (lines : List Line)
    → IsReduced is_predicate clauses c old
    → AreLinesOfMove is_predicate clauses (clause_of old.clause) (last_number old.lines) m lines
    → IsExtended old m.by lines new
    → IsReduced is_predicate clauses c new

abbrev pub StepsGoOn : Type 0
StepsGoOn =
    (is_predicate : ℕ → Bool) (clauses : ℕ → Option TreeClause) (c : TreeClause) (by : Option ℕ) (old new : Reduced)
    → IsReduced is_predicate clauses c old → GoesOn is_predicate clauses by old new → IsReduced is_predicate clauses c new
