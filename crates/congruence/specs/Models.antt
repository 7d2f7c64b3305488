-- Propositional clauses whose names are equations between nodes, and congruences as their models.
use Rattle.std.specs.Prelude.{◌≡◌, ℕ, ◌<◌, nat_lt, List, [], ◌∷◌, ◌++◌, map, length, IsTrue, IsFalse}
use Rattle.std.specs.List.{list_all}
use Rattle.plain_types.specs.Names.{positive_of, negative_of}
use Rattle.sat_core.specs.Clause.{PropClause, Valuation, is_below, names_below, clause_true, clauses_true}
use Rattle.congruence.specs.declared.node.Node.{Node}
use Rattle.congruence.specs.declared.node.Equation.{Equation}
use Rattle.congruence.specs.Congruence.{Numbering, equation_at, IsCongruence, joins}

-- a name is true where the sides of its equation are in one class
abbrev pub values_by : Numbering → List Equation → Valuation
values_by class atoms name = joins class (equation_at atoms name)

-- no congruence makes all clauses true
abbrev pub HasNoModel : List Node → List Equation → List PropClause → Type 0
HasNoModel nodes atoms clauses =
    (class : Numbering) → IsCongruence nodes class → IsFalse (clauses_true (values_by class atoms) clauses)

-- A congruence that makes all clauses true.
pub record HasModel (nodes : List Node) (atoms : List Equation) (clauses : List PropClause) : Type 0 where
  pub class : Numbering
  pub congruence : IsCongruence nodes class
  pub makes_true : IsTrue (clauses_true (values_by class atoms) clauses)

-- ---- what a step finds

-- Clauses came to others that all follow from these under each congruence.
pub record AreExtended (nodes : List Node) (atoms : List Equation) (first now : List PropClause) : Type 0 where
  pub below : IsTrue (names_below (length atoms) now)
  pub follow :
      (class : Numbering) → IsCongruence nodes class → IsTrue (clauses_true (values_by class atoms) first)
      → IsTrue (clauses_true (values_by class atoms) now)
  pub stay : (values : Valuation) → IsTrue (clauses_true values now) → IsTrue (clauses_true values first)

-- The values of the names are those of a congruence.
pub record KeepEquality (nodes : List Node) (atoms : List Equation) (values : Valuation) : Type 0 where
  pub class : Numbering
  pub congruence : IsCongruence nodes class
  pub agree : (name : ℕ) → name < length atoms → values name ≡ values_by class atoms name

-- A clause that is true under each congruence and false under the values.
pub record IsConflict (nodes : List Node) (atoms : List Equation) (values : Valuation) (clause : PropClause) : Type 0 where
  pub below : IsTrue (list_all (is_below (length atoms)) clause)
  pub broken : IsFalse (clause_true values clause)
  pub valid : (class : Numbering) → IsCongruence nodes class → IsTrue (clause_true (values_by class atoms) clause)

-- Names that are true under the values, and of which another one follows in each congruence.
pub record AreReasons (nodes : List Node) (atoms : List Equation) (values : Valuation) (name : ℕ) (names : List ℕ) : Type 0 where
  pub below : IsTrue (list_all (λ n. nat_lt n (length atoms)) names)
  pub true_ones : IsTrue (list_all values names)
  pub entail :
      (class : Numbering) → IsCongruence nodes class → IsTrue (list_all (values_by class atoms) names)
      → IsTrue (values_by class atoms name)

-- not all of these names, or this one
abbrev pub conflict_clause : List ℕ → ℕ → PropClause
conflict_clause names name = map negative_of names ++ positive_of name ∷ []
