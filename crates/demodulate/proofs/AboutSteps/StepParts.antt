-- What a rewriting step is but for the kinds of its terms, whether it comes from the rule or from a search.
use Rattle.std.proofs.Common.{◌≡◌, ℕ, Bool, ◌==◌, List, [], ◌∷◌}
use Rattle.std.specs.Prelude.{All, Option, Some, IsTrue, slice_get}
use Rattle.std.specs.List.{list_any}
use Rattle.fol_base.specs.Tree.{Tree, tree_variables}
use Rattle.fol_base.specs.Instance.{Substitution, instance}
use Rattle.fol_base.specs.Place.{subterm}
use Rattle.fol_base.specs.Clause.{TreeLiteral, TreeClause}
use Rattle.fol_base.specs.Ground.{literals_instance}
use Rattle.fol_base.specs.Order.{tree_greater}
use Rattle.fol_base.specs.Rules.{superposed}
use Rattle.fol_base.specs.Sides.{side_of, other_side_of}
use Rattle.fol_base.specs.Unifier.{IsMatcher}
use Rattle.fol_base.specs.declared.clause.Side.{Side}
use Rattle.kernel_steps.specs.Inference.{RewritesBy}
use Rattle.unifier.specs.Matching.{by_pairs}
use Rattle.rewriting.specs.Searching.{IsFoundOf}
use Rattle.rewriting.specs.Laws.{Becomes}
use Rattle.rewriting.specs.declared.searching.Found.{Found}
use Rattle.list_lemmas.proofs.Tests.{tests-all}

pub record Rewrites (unit c d : TreeClause) : Type 0 where
  pub equation : TreeLiteral
  pub is_unit : unit.literals ≡ equation ∷ []
  pub from_side : Side
  pub j : ℕ
  pub literal : TreeLiteral
  pub literal_there : slice_get c.literals j ≡ Some literal
  pub into_side : Side
  pub place : List ℕ
  pub old : Tree
  pub old_there : subterm place (side_of into_side literal) ≡ Some old
  pub matcher : Substitution
  pub matches : IsMatcher (side_of from_side equation) old matcher
  pub greater : IsTrue (tree_greater old (instance matcher (other_side_of from_side equation)))
  pub no_new_variables :
      All (λ v. IsTrue (list_any (λ w. v == w) (tree_variables (side_of from_side equation)))) (tree_variables (other_side_of from_side equation))
  pub gives : superposed (literals_instance matcher unit.literals) 0 from_side c.literals j into_side place ≡ Some d.literals

pub of_step : (is_predicate : ℕ → Bool) (unit c d : TreeClause) → RewritesBy is_predicate unit c d → Rewrites unit c d
of_step is_predicate unit c d r = record {
  equation = r.equation;
  is_unit = r.is_unit;
  from_side = r.from_side;
  j = r.j;
  literal = r.literal;
  literal_there = r.literal_there;
  into_side = r.into_side;
  place = r.place;
  old = r.old;
  old_there = r.old_there;
  matcher = r.matcher;
  matches = r.matches;
  greater = r.greater;
  no_new_variables = r.no_new_variables;
  gives = r.gives;
}

pub of_found :
    (clauses : ℕ → Option TreeClause) (c : TreeClause) (f : Found) (found : IsFoundOf clauses c.literals f) (d : TreeClause)
    → Becomes found.rewrite.unit c f d → Rewrites found.rewrite.unit c d
of_found clauses c f found d made =
    let w = found.rewrite in
    let side : Tree = side_of f.rewrite.side w.equation in
    record {
      equation = w.equation;
      is_unit = w.alone;
      from_side = f.rewrite.side;
      j = f.literal;
      literal = found.literal;
      literal_there = found.literal_there;
      into_side = f.side;
      place = f.place;
      old = found.old;
      old_there = found.old_there;
      matcher = by_pairs f.rewrite.terms;
      matches = w.matched.redex.matches;
      greater = w.matched.redex.greater;
      no_new_variables =
          tests-all (λ v. list_any (λ u. v == u) (tree_variables side)) (tree_variables (other_side_of f.rewrite.side w.equation)) w.matched.redex.no_new_variables;
      gives = made.gives;
    }
