-- The names that the lines of a derivation introduce: the literals for which they stand, and their order.
use Rattle.std.specs.Prelude.{◌≡◌, ℕ, ◌<◌, List, [], map, option_map, Some, slice_get, slice_index_or, if◌then◌else◌}
use Rattle.plain_types.specs.declared.sequence.NameLit.{NameLit}
use Rattle.fol_base.specs.Clause.{TreeLiteral, TreeClause}
use Rattle.fol_base.specs.Literal.{clause_of}
use Rattle.kernel_steps.specs.Derivation.{complement, ComesBy}
use Rattle.kernel_steps.specs.declared.step.Step.{Step}
use Rattle.kernel_steps.specs.declared.step.Step.TheVariants.{Component, Opposite}
use Rattle.kernel_steps.specs.declared.step.Line.{Line}

-- Each name stands for some literals, its body; the bodies are listed by the numbers of the names. A component line has the literals of
-- its name's body, and an opposite line their complements.
abbrev pub HasBody : List (List TreeLiteral) → Step → TreeClause → Type 0
HasBody bodies (Component name) c = slice_get bodies name ≡ Some c.literals
HasBody bodies (Opposite name) c = option_map (map complement) (slice_get bodies name) ≡ Some c.literals
HasBody bodies step c = Unit {0}

-- each line that introduces a name has its body
abbrev pub HaveBodies : List (List TreeLiteral) → List Line → Type 0
HaveBodies bodies lines =
    (n : ℕ) (line : Line) → slice_get lines n ≡ Some line → HasBody bodies line.step (clause_of line.clause)

-- later component lines introduce greater names
abbrev pub NamesRise : List Line → Type 0
NamesRise lines =
    (n m name greater : ℕ) (line later : Line)
    → slice_get lines n ≡ Some line → slice_get lines m ≡ Some later → n < m
    → line.step ≡ Component name → later.step ≡ Component greater → name < greater

-- ---- definitions for private functions alone

-- the literals for which a signed name stands
abbrev pub stands_for : List (List TreeLiteral) → NameLit → List TreeLiteral
stands_for bodies n = let body = slice_index_or bodies n.name [] in if n.positive then body else map complement body

-- the clause is a kernel step's, with the body of the name that the step introduces
pub record ComesWithBody (form : List TreeClause) (bodies : List (List TreeLiteral)) (step : Step) (earlier : List Line) (c : TreeClause) : Type 0 where
  pub comes : ComesBy step form earlier c
  pub body : HasBody bodies step c
