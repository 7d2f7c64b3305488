-- Lines of superpositions at the root of two sides.
use Rattle.std.specs.Prelude.{◌≡◌, ℕ, List, [], ◌++◌, map, Option, Some}
use Rattle.fol_base.specs.Tree.{Tree, trees_of, trees_variables}
use Rattle.fol_base.specs.Instance.{instance, substitution}
use Rattle.fol_base.specs.Clause.{TreeLiteral}
use Rattle.fol_base.specs.Ground.{literals_instance}
use Rattle.fol_base.specs.Canonical.{renaming}
use Rattle.fol_base.specs.Literal.{clause_of}
use Rattle.fol_base.specs.Numbering.{with_variables}
use Rattle.fol_base.specs.Rules.{superposed}
use Rattle.fol_base.specs.declared.clause.Side.{Side}
use Rattle.kernel_steps.specs.declared.step.Line.{Line}
use Rattle.kernel_steps.specs.declared.step.Step.TheVariants.{Para}

-- the superposition of a side of literal i onto a side of literal j, under terms for the variables of both lists
abbrev pub superposed_under :
    List Tree → List TreeLiteral → ℕ → Side → List Tree → List TreeLiteral → ℕ → Side → Option (List TreeLiteral)
superposed_under left ls i s right ks j z =
    superposed (literals_instance (substitution left) ls) i s (literals_instance (substitution right) ks) j z []

-- Its line, with the variables by new numbers: those that were met before come first, and then those of the terms.
pub record IsSuperposed
    (ls : List TreeLiteral) (left : List Tree) (i : ℕ) (s : Side) (first : ℕ)
    (ks : List TreeLiteral) (right : List Tree) (j : ℕ) (z : Side) (second : ℕ) (met : List ℕ) (line : Line) : Type 0 where
  pub order : List ℕ
  pub order_met : order ≡ with_variables met (trees_variables (trees_of (left ++ right)))
  pub first_bind : List Tree
  pub first_renamed : first_bind ≡ map (instance (renaming order)) left
  pub second_bind : List Tree
  pub second_renamed : second_bind ≡ map (instance (renaming order)) right
  pub of_step : line.step ≡ Para first second i s j z [] first_bind second_bind
  pub gives : superposed_under first_bind ls i s second_bind ks j z ≡ Some (clause_of line.clause).literals
