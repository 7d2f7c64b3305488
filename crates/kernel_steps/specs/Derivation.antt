-- Derivations: each line comes about by a step from earlier lines.
use Rattle.std.specs.Prelude.{◌≡◌, ℕ, ◌-◌, Bool, true, false, not, ◌==◌, nat_lt, if◌then◌else◌, List, [], ◌∷◌, ◌++◌, take, length, Option, None, Some, option_and_then, unwrap_or, slice_get, IsTrue}
use Rattle.plain_types.specs.declared.sequence.NameLit.{NameLit}
use Rattle.plain_types.specs.Names.{positive_of, negative_of}
use Rattle.fol_base.specs.Clause.{TreeLiteral, TreeClause}
use Rattle.fol_base.specs.Ground.{is_ground_literal}
use Rattle.fol_base.specs.Literal.{clause_of}
use Rattle.kernel_steps.specs.Parents.{Parent, Parents}
use Rattle.kernel_steps.specs.Conclusion.{empty_clause, verdict, concludes}
use Rattle.kernel_steps.specs.declared.step.TheConstants.{CLAUSE_NUMBERS}
use Rattle.kernel_steps.specs.declared.step.Step.{Step}
use Rattle.kernel_steps.specs.declared.step.Step.TheVariants.{Input, Negate, Clausify, Component, Opposite}
use Rattle.kernel_steps.specs.declared.step.Line.{Line}

-- ---- lines as parents

-- input and negate lines are lines of formulas, all others of clauses
abbrev pub is_clause_step : Step → Bool
is_clause_step (Input place) = false
is_clause_step (Negate place) = false
is_clause_step _ = true

-- component and opposite lines introduce a name
abbrev pub introduces_name : Step → Bool
introduces_name (Component name) = true
introduces_name (Opposite name) = true
introduces_name _ = false

-- a line as a parent of later steps; none for the line of a formula
abbrev pub line_parent : Line → Option Parent
line_parent l =
    if is_clause_step l.step
    then Some (record { clause = clause_of l.clause; introduces = introduces_name l.step })
    else None

-- the clause lines by their numbers; a formula's line has no clause that a rule may use
abbrev pub line_parents : List Line → Parents
line_parents lines n = option_and_then line_parent (slice_get lines n)

-- ---- names

-- the clause of these literals and of these names
abbrev pub under_names : List TreeLiteral → List NameLit → TreeClause
under_names ls names = record { literals = ls; names = names }

-- the step of a component line that introduces this name
abbrev pub is_component_of : ℕ → Step → Bool
is_component_of name (Component n) = n == name
is_component_of name _ = false

-- the step of a component line
abbrev pub is_component : Step → Bool
is_component (Component name) = true
is_component _ = false

-- the clause of the component line that introduces a name
abbrev pub component_clause : ℕ → List Line → Option TreeClause
component_clause name [] = None
component_clause name (l ∷ ls) = if is_component_of name l.step then Some (clause_of l.clause) else component_clause name ls

-- the body of a name: the literals of its component line, for which the name stands
abbrev pub body : List Line → ℕ → TreeClause
body lines name = record { literals = (unwrap_or (component_clause name lines) empty_clause).literals; names = [] }

-- the literal with the other sign
abbrev pub complement : TreeLiteral → TreeLiteral
complement l = record l { positive = not l.positive }

-- A component line introduces a new name for one or more literals: its clause is the literals, or not the name.
pub record IsComponent (name : ℕ) (earlier : List Line) (c : TreeClause) : Type 0 where
  pub is_new : component_clause name earlier ≡ None
  pub some_literal : length c.literals ≡ 0 → ⊥
  pub one_name : c.names ≡ negative_of name ∷ []

-- An opposite line is of a name that was introduced for one ground positive literal: its clause is not the literal, or the name.
pub record IsOpposite (name : ℕ) (earlier : List Line) (c : TreeClause) : Type 0 where
  pub component : TreeClause
  pub introduced : component_clause name earlier ≡ Some component
  pub literal : TreeLiteral
  pub one_literal : component.literals ≡ literal ∷ []
  pub positive : IsTrue literal.positive
  pub ground : IsTrue (is_ground_literal literal)
  pub complemented : c.literals ≡ complement literal ∷ []
  pub one_name : c.names ≡ positive_of name ∷ []

-- ---- derivations

-- A kernel step: the clause of the form with that number, the definition of a name, or a rule's conclusion from earlier lines. A line
-- of a formula has the empty clause.
abbrev pub ComesBy : Step → List TreeClause → List Line → TreeClause → Type 0
ComesBy (Input place) form earlier c = c ≡ empty_clause
ComesBy (Negate place) form earlier c = c ≡ empty_clause
ComesBy (Clausify i) form earlier c = slice_get form i ≡ Some c
ComesBy (Component name) form earlier c = IsComponent name earlier c
ComesBy (Opposite name) form earlier c = IsOpposite name earlier c
ComesBy step form earlier c = verdict step (line_parents earlier) ≡ concludes c

-- each line is a kernel step from the form and the lines before it
abbrev pub IsDerivation : List TreeClause → List Line → Type 0
IsDerivation form lines =
    (n : ℕ) (line : Line) → slice_get lines n ≡ Some line → ComesBy line.step form (take n lines) (clause_of line.clause)

-- a derivation whose last line is the empty clause
pub record IsRefutation (form : List TreeClause) (lines : List Line) : Type 0 where
  pub derived : IsDerivation form lines
  pub before : List Line
  pub last : Line
  pub ends : lines ≡ before ++ last ∷ []
  pub is_clause : IsTrue (is_clause_step last.step)
  pub is_empty : clause_of last.clause ≡ empty_clause

-- ---- lines that go on from clauses with numbers of their own

-- line i has the number first + i
abbrev pub continued : ℕ → Parents → List Line → Parents
continued first outer lines n = if nat_lt n first then outer n else line_parents lines (n - first)

-- each line is its step's conclusion from these clauses and the lines before it
abbrev pub AreSteps : ℕ → Parents → List Line → Type 0
AreSteps first outer lines =
    (n : ℕ) (line : Line) → slice_get lines n ≡ Some line
    → verdict line.step (continued first outer (take n lines)) ≡ concludes (clause_of line.clause)

-- the parents from which the lines of a reduced clause go on: clauses by their numbers, and the clause that was handed in
abbrev pub reduced_parents : Parents → TreeClause → Parents
reduced_parents clauses c n =
    if nat_lt n CLAUSE_NUMBERS
    then clauses n
    else (if n == CLAUSE_NUMBERS then Some (record { clause = c; introduces = false }) else None)
