-- Subsumption of clauses by different literals (Robinson 1965; as a restriction of multisets in Bachmair and Ganzinger 1994).
use Rattle.std.specs.Prelude.{ℕ, Bool, true, false, not, ◌&&◌, ◌==◌, if◌then◌else◌, List, [], ◌∷◌, slice_get, Option, None, Some, IsTrue}
use Rattle.std.specs.List.{list_any, list_all}
use Rattle.plain_types.specs.declared.sequence.NameLit.{NameLit}
use Rattle.fol_base.specs.Instance.{Substitution}
use Rattle.fol_base.specs.Clause.{TreeLiteral, TreeClause, literal_instance}
use Rattle.fol_base.specs.Order.{equivalent_literals}
use Rattle.fol_base.specs.Kind.{PutsFunctionTerms}

-- the numbers of the negative names: under them the ordinary part is asserted
abbrev pub assertions : List NameLit → List ℕ
assertions [] = []
assertions (n ∷ ns) = if n.positive then assertions ns else (n.name ∷ assertions ns)

-- each number of the first list is in the second
abbrev pub is_among : List ℕ → List ℕ → Bool
is_among ns ms = list_all (λ n. list_any (λ m. n == m) ms) ns

-- no number stands twice
abbrev pub all_different : List ℕ → Bool
all_different [] = true
all_different (k ∷ ks) = not (list_any (λ i. k == i) ks) && all_different ks

-- the sides in either order
abbrev pub is_there : TreeLiteral → Option TreeLiteral → Bool
is_there l None = false
is_there l (Some m) = equivalent_literals l m

-- each literal's instance stands in the clause at the place that the list has for it
abbrev pub stand_at : Substitution → List TreeLiteral → List ℕ → List TreeLiteral → Bool
stand_at σ [] [] ds = true
stand_at σ [] (k ∷ places) ds = false
stand_at σ (l ∷ ls) [] ds = false
stand_at σ (l ∷ ls) (k ∷ places) ds = is_there (literal_instance σ l) (slice_get ds k) && stand_at σ ls places ds

-- c subsumes d: a substitution maps its literals to different literals of d, and its assertions are among d's. The variables
-- become function terms: `X0 = X1` doesn't subsume `p(a) = $true`, which it doesn't entail.
pub record Subsumes (is_predicate : ℕ → Bool) (c : TreeClause) (d : TreeClause) : Type 0 where
  pub matcher : Substitution
  pub function_terms : PutsFunctionTerms is_predicate matcher
  pub places : List ℕ
  pub different : IsTrue (all_different places)
  pub mapped : IsTrue (stand_at matcher c.literals places d.literals)
  pub asserted : IsTrue (is_among (assertions c.names) (assertions d.names))
