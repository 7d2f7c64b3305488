-- Variants: clauses that differ in the numbers of their variables alone. Which of them a unifier gives doesn't count: each is a
-- conclusion of the same inference, the canonical form among them.
use Rattle.std.specs.Prelude.{◌≡◌, ℕ, Bool, List, Option}
use Rattle.fol_base.specs.Instance.{Substitution}
use Rattle.fol_base.specs.Clause.{TreeClause, clause_instance}
use Rattle.fol_base.specs.Canonical.{canonical_clause}
use Rattle.fol_base.specs.Selection.{SelectionMode}
use Rattle.fol_base.specs.declared.clause.Side.{Side}
use Rattle.kernel_steps.specs.Inference.{NamedSuperposition, NamedResolution, NamedFactoring}
use Rattle.kernel_steps.specs.Named.{IsInference}
use Rattle.kernel_steps.specs.declared.key.Key.{Key}

-- each clause is an instance of the other
pub record AreVariants (c : TreeClause) (d : TreeClause) : Type 0 where
  pub forth : Substitution
  pub becomes : clause_instance forth c ≡ d
  pub back : Substitution
  pub comes_back : clause_instance back d ≡ c

-- ---- laws

abbrev pub CanonicalFormsAreVariants : Type 0
CanonicalFormsAreVariants = (c : TreeClause) → AreVariants c (canonical_clause c)

-- A variant of a conclusion is a conclusion of that inference.
abbrev pub ResolutionsHaveVariants : Type 0
ResolutionsHaveVariants =
    (mode : SelectionMode) (c : TreeClause) (i : ℕ) (d e : TreeClause)
    → AreVariants d e → NamedResolution mode c i d → NamedResolution mode c i e

abbrev pub FactoringsHaveVariants : Type 0
FactoringsHaveVariants =
    (is_predicate : ℕ → Bool) (mode : SelectionMode) (c : TreeClause) (i : ℕ) (side_i : Side) (j : ℕ) (side_j : Side) (d e : TreeClause)
    → AreVariants d e → NamedFactoring is_predicate mode c i side_i j side_j d → NamedFactoring is_predicate mode c i side_i j side_j e

abbrev pub SuperpositionsHaveVariants : Type 0
SuperpositionsHaveVariants =
    (is_predicate : ℕ → Bool) (mode : SelectionMode) (first : TreeClause) (i : ℕ) (from_side : Side)
    (second : TreeClause) (j : ℕ) (into_side : Side) (place : List ℕ) (d e : TreeClause)
    → AreVariants d e → NamedSuperposition is_predicate mode first i from_side second j into_side place d
    → NamedSuperposition is_predicate mode first i from_side second j into_side place e

abbrev pub InferencesHaveVariants : Type 0
InferencesHaveVariants =
    (is_predicate : ℕ → Bool) (mode : SelectionMode) (clauses : ℕ → Option TreeClause) (key : Key) (d e : TreeClause)
    → AreVariants d e → IsInference is_predicate mode clauses key d → IsInference is_predicate mode clauses key e

-- And all conclusions of an inference are variants of one another.
abbrev pub ConclusionsAreVariants : Type 0
ConclusionsAreVariants =
    (is_predicate : ℕ → Bool) (mode : SelectionMode) (clauses : ℕ → Option TreeClause) (key : Key) (d e : TreeClause)
    → IsInference is_predicate mode clauses key d → IsInference is_predicate mode clauses key e → AreVariants d e
