-- The steps of superpositions.
use Rattle.std.specs.Prelude.{◌≡◌, ℕ, List, [], ◌++◌, map, flat_map, Option, Some}
use Rattle.fol_base.specs.Tree.{Tree, trees_of, tree_variables, trees_variables}
use Rattle.fol_base.specs.Instance.{Substitution, instance, substitution}
use Rattle.fol_base.specs.Clause.{TreeLiteral, TreeClause, literal_variables}
use Rattle.fol_base.specs.Ground.{literals_instance}
use Rattle.fol_base.specs.Canonical.{renaming}
use Rattle.fol_base.specs.Literal.{clause_of}
use Rattle.fol_base.specs.Numbering.{with_variables}
use Rattle.fol_base.specs.Rules.{superposed}
use Rattle.fol_base.specs.Term.{tree_of}
use Rattle.fol_base.specs.declared.term.Term.{Term}
use Rattle.kernel_steps.specs.Names.{sorted_names}
use Rattle.kernel_steps.specs.declared.step.Step.TheVariants as step
use Rattle.eq_rules.specs.declared.inference.Made.{Made}
use Rattle.eq_rules.specs.declared.inference.Made.TheVariants.{Conclusion, Heavy}
use Rattle.eq_rules.specs.declared.concluding.LiteralSide.{LiteralSide}
use Rattle.superpose.specs.declared.sites.LiteralPlace.{LiteralPlace}

-- the variables of a term's instance
abbrev pub instance_variables : Substitution → Term → List ℕ
instance_variables σ t = tree_variables (instance σ (tree_of t))

-- the rule on the literals of two clauses
abbrev pub superposed_at : LiteralSide → LiteralPlace → List TreeLiteral → List TreeLiteral → Option (List TreeLiteral)
superposed_at s t ls ks = superposed ls s.literal s.side ks t.at.literal t.at.side t.place

-- What the rule gives of two premises under terms, with the variables numbered by first occurrence in it and then in the terms: the terms
-- by these numbers, and the clause that the rule gives under them.
pub record GivesNumbered
    (c : TreeClause) (s : LiteralSide) (d : TreeClause) (t : LiteralPlace)
    (left right first_bind second_bind : List Tree) (e : TreeClause) : Type 0 where
  pub plain : List TreeLiteral
  pub given :
      superposed_at s t (literals_instance (substitution left) c.literals) (literals_instance (substitution right) d.literals) ≡ Some plain
  pub order : List ℕ
  pub met : order ≡ with_variables (with_variables [] (flat_map literal_variables plain)) (trees_variables (trees_of (left ++ right)))
  pub first_renamed : first_bind ≡ map (instance (renaming order)) left
  pub second_renamed : second_bind ≡ map (instance (renaming order)) right
  pub gives :
      superposed_at s t (literals_instance (substitution first_bind) c.literals) (literals_instance (substitution second_bind) d.literals)
      ≡ Some e.literals
  pub names : e.names ≡ sorted_names (c.names ++ d.names)

-- the superposition from a side into a place under terms
abbrev pub IsSuperpositionStep : ℕ → TreeClause → LiteralSide → ℕ → TreeClause → LiteralPlace → List Tree → List Tree → Made → Type 0
IsSuperpositionStep number c s partner d t left right Heavy = ⊥
IsSuperpositionStep number c s partner d t left right (Conclusion by clause) =
    (first_bind : List Tree) × (second_bind : List Tree)
    × (by ≡ step.Para number partner s.literal s.side t.at.literal t.at.side t.place first_bind second_bind)
    × GivesNumbered c s d t left right first_bind second_bind (clause_of clause)
