-- Lines by which one literal of a clause goes.
use Rattle.std.specs.Prelude.{◌≡◌, ℕ, ◌<◌, Bool, true, not, ◌&&◌, List, [], map, flat_map, false, length, remove, slice_get, Option, None, Some, is_some}
use Rattle.fol_base.specs.Tree.{Tree, tree_eq, trees_of, trees_variables}
use Rattle.fol_base.specs.Instance.{instance, substitution}
use Rattle.fol_base.specs.Clause.{TreeLiteral, TreeClause, literal_variables}
use Rattle.fol_base.specs.Ground.{literals_instance}
use Rattle.fol_base.specs.Canonical.{renaming}
use Rattle.fol_base.specs.Literal.{clause_of}
use Rattle.fol_base.specs.Numbering.{with_variables}
use Rattle.fol_base.specs.Order.{equivalent_literals}
use Rattle.fol_base.specs.Rules.{resolved, merged}
use Rattle.kernel_steps.specs.Lines.{own_terms}
use Rattle.kernel_steps.specs.declared.step.Line.{Line}
use Rattle.kernel_steps.specs.declared.step.Step.{Step}
use Rattle.eq_rules.specs.Concluding.{GivesNumbered}
use Rattle.unit_cutting.specs.declared.dropping.EqualPlaces.{EqualPlaces}

-- The variables of a clause by new numbers: as they are met first in some of its literals, and then in the whole.
pub record AreRenumbered (c : TreeClause) (plain : List TreeLiteral) (bind : List Tree) : Type 0 where
  pub order : List ℕ
  pub met : order ≡ with_variables (with_variables [] (flat_map literal_variables plain)) (trees_variables (trees_of (own_terms c)))
  pub renamed : bind ≡ map (instance (renaming order)) (own_terms c)

-- the literals under the variables' own terms, without one
abbrev pub plain_without : TreeClause → ℕ → List TreeLiteral
plain_without c i = remove (literals_instance (substitution (own_terms c)) c.literals) i

-- A line by a rule on one clause, whose step has the variables by new numbers.
pub record IsOwnStep
    (rule : List TreeLiteral → Option (List TreeLiteral)) (step : List Tree → Step) (c : TreeClause) (line : Line) : Type 0 where
  pub bind : List Tree
  pub of_step : line.step ≡ step bind
  pub gives : GivesNumbered rule c (own_terms c) bind (clause_of line.clause)

-- a literal t != t
abbrev pub is_trivial : TreeLiteral → Bool
is_trivial l = not l.positive && tree_eq l.left l.right

-- the rule applies to a literal, or to none
abbrev pub IsTrivialAt : TreeClause → ℕ → Type 0
IsTrivialAt c i = (i < length c.literals) × (is_some (resolved c.literals i) ≡ true)

abbrev pub IsFoundTrivial : TreeClause → Option ℕ → Type 0
IsFoundTrivial c None = (i : ℕ) → resolved c.literals i ≡ None
IsFoundTrivial c (Some i) = IsTrivialAt c i

-- two places of literals that are the same, or none
pub record AreEqualAt (c : TreeClause) (stays goes : ℕ) : Type 0 where
  pub goes_inside : goes < length c.literals
  pub applies : is_some (merged c.literals stays goes) ≡ true

abbrev pub AreFoundEqual : TreeClause → Option EqualPlaces → Type 0
AreFoundEqual c None = (i j : ℕ) → merged c.literals i j ≡ None
AreFoundEqual c (Some p) = AreEqualAt c p.stays p.goes

-- of the literals before an index none is the same as the one there, or one is
abbrev pub IsFoundBefore : TreeClause → ℕ → Option ℕ → Type 0
IsFoundBefore c goes None =
    (i : ℕ) (l m : TreeLiteral) → i < goes → slice_get c.literals i ≡ Some l → slice_get c.literals goes ≡ Some m
    → equivalent_literals l m ≡ false
IsFoundBefore c goes (Some i) = AreEqualAt c i goes
