-- Unifiers of two sides within one clause.
use Rattle.std.specs.Prelude.{◌≡◌, ℕ, true, false, Some, slice_get}
use Rattle.fol_base.specs.Clause.{TreeLiteral, TreeClause, clause_variables}
use Rattle.fol_base.specs.Canonical.{bound_of}
use Rattle.unifier.specs.Bindings.{IsUnified}
use Rattle.unifier.specs.Renaming.{fits}
use Rattle.unifier.specs.SolvedForm.{SolvedForm}

-- a most general unifier of the sides of a negative literal, with no variables but the clause's
pub record ResolvesBy (b : SolvedForm) (c : TreeClause) (i : ℕ) : Type 0 where
  pub literal : TreeLiteral
  pub there : slice_get c.literals i ≡ Some literal
  pub negative : literal.positive ≡ false
  pub unified : IsUnified false literal.left literal.right (Some b)
  pub counted : fits b (bound_of (clause_variables c)) 0 ≡ true
