-- The lines that were taken, and their tables.
use Rattle.std.specs.Prelude.{◌≡◌, ◌<◌, ℕ, List, [], ◌∷◌, ◌++◌, length, Option, Some, option_map, option_and_then, slice_get}
use Rattle.fol_base.specs.Clause.{TreeClause}
use Rattle.fol_base.specs.Literal.{clause_of}
use Rattle.kernel_steps.specs.Derivation.{component_clause}
use Rattle.kernel_steps.specs.declared.step.Step.{Step}
use Rattle.kernel_steps.specs.declared.step.Step.TheVariants.{Component}
use Rattle.kernel_steps.specs.declared.step.Line.{Line}
use Rattle.clausal_form.specs.DerivationLine.{NamedLine, Taken}
use Rattle.tstp_checker.specs.declared.taken.TakenLines.{TakenLines}

-- lines with their names
abbrev pub named_lines : List (List ℕ) → List Line → List NamedLine
named_lines names [] = []
named_lines [] (l ∷ ls) = record { name = []; line = l } ∷ named_lines [] ls
named_lines (n ∷ ns) (l ∷ ls) = record { name = n; line = l } ∷ named_lines ns ls

abbrev pub taken_of : TakenLines → Taken
taken_of x = record { lines = named_lines x.names x.lines; introduced = x.introduced }

-- the clause of the line at a place
abbrev pub clause_at : List Line → Option ℕ → Option TreeClause
clause_at lines place = option_and_then (λ p. option_map (λ (l : Line). clause_of l.clause) (slice_get lines p)) place

-- Each line has its name, and the table of component lines has for each name the place of the line that introduces it.
pub record IsKept (x : TakenLines) : Type 0 where
  pub named : length x.names ≡ length x.lines
  pub components : (n : ℕ) → component_clause n x.lines ≡ clause_at x.lines (slice_get x.components n)
  pub within : (n place : ℕ) → slice_get x.components n ≡ Some place → place < length x.lines

-- the table with a line more, which has that place
abbrev pub components_with : ℕ → List ℕ → Step → List ℕ
components_with place table (Component name) = table ++ place ∷ []
components_with place table _ = table

-- a component step introduces the next name
abbrev pub IsNext : ℕ → Step → Type 0
IsNext n (Component name) = name ≡ n
IsNext n _ = Unit {0}

-- the number of names that a step introduces
abbrev pub introduced_by : Step → ℕ
introduced_by (Component name) = 1
introduced_by _ = 0
