-- One rewriting step, as a line.
use Rattle.std.specs.Prelude.{◌≡◌, ℕ, List, [], ◌++◌, map, flat_map, Option, Some}
use Rattle.fol_base.specs.Tree.{Tree, trees_of, trees_variables}
use Rattle.fol_base.specs.Instance.{instance}
use Rattle.fol_base.specs.Clause.{TreeClause, literal_variables, clause_variables}
use Rattle.fol_base.specs.Canonical.{bound_of, terms_from, renaming, canonical_clause}
use Rattle.fol_base.specs.Numbering.{with_variables}
use Rattle.fol_base.specs.Literal.{clause_of}
use Rattle.kernel_steps.specs.Lines.{own_terms}
use Rattle.kernel_steps.specs.declared.step.Step.TheVariants.{Para}
use Rattle.kernel_steps.specs.declared.step.Line.{Line}
use Rattle.unifier.specs.Matching.{by_pairs}
use Rattle.rewriting.specs.Laws.{Becomes}
use Rattle.rewriting.specs.declared.searching.Found.{Found}

-- a clause under each number
abbrev pub always : TreeClause → ℕ → Option TreeClause
always c n = Some c

-- what the matcher puts for the variables of the unit
abbrev pub matched_terms : TreeClause → Found → List Tree
matched_terms unit f = terms_from 0 (bound_of (clause_variables unit)) (by_pairs f.rewrite.terms)

-- The line of a rewrite that was found: its clause is what the unit makes of the clause, in canonical form; and it binds the terms of the
-- matcher and the clause's own variables, with the variables numbered by first occurrence in the result and then in these terms.
pub record IsLineOf (unit c : TreeClause) (f : Found) (parent : ℕ) (line : Line) : Type 0 where
  pub made : TreeClause
  pub becomes : Becomes unit c f made
  pub clause : clause_of line.clause ≡ canonical_clause made
  pub first_bind : List Tree
  pub second_bind : List Tree
  pub step : line.step ≡ Para f.rewrite.number parent 0 f.rewrite.side f.literal f.side f.place first_bind second_bind
  pub order : List ℕ
  pub met :
      order
      ≡ with_variables (with_variables [] (flat_map literal_variables made.literals)) (trees_variables (trees_of (matched_terms unit f ++ own_terms c)))
  pub first_numbered : first_bind ≡ map (instance (renaming order)) (matched_terms unit f)
  pub second_numbered : second_bind ≡ map (instance (renaming order)) (own_terms c)
