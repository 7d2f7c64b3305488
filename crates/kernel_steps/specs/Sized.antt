-- The generating rules with the sizes of their inferences: an inference is heavy where its conclusion, or a premise under the unifier,
-- has too many symbols to be kept.
use Rattle.std.specs.Prelude.{◌≡◌, ℕ, Bool, ◌||◌, nat_lt, List, Option}
use Rattle.fol_base.specs.Clause.{TreeClause, clause_size, clause_instance}
use Rattle.fol_base.specs.Selection.{SelectionMode}
use Rattle.fol_base.specs.declared.clause.Side.{Side}
use Rattle.fol_base.specs.declared.limits.TheConstants.{MOST_SYMBOLS}
use Rattle.kernel_steps.specs.Inference.{NamedSuperposition, NamedResolution, NamedFactoring}
use Rattle.kernel_steps.specs.Named.{OfOne, OfTwo}
use Rattle.kernel_steps.specs.declared.key.Key.{Key}
use Rattle.kernel_steps.specs.declared.key.Key.TheVariants.{Para, Refl, Factor, Replaced}

-- more symbols than a kept clause may have
abbrev pub is_large : TreeClause → Bool
is_large c = nat_lt MOST_SYMBOLS (clause_size c)

-- the inferences with a conclusion, and whether that or a premise under the unifier is large

pub record SizedSuperposition
    (is_predicate : ℕ → Bool) (mode : SelectionMode) (first : TreeClause) (i : ℕ) (from_side : Side)
    (second : TreeClause) (j : ℕ) (into_side : Side) (place : List ℕ) (conclusion : TreeClause) (heavy : Bool) : Type 0 where
  pub named : NamedSuperposition is_predicate mode first i from_side second j into_side place conclusion
  pub size :
      (is_large (clause_instance named.first_unifier first) || (is_large (clause_instance named.second_unifier second) || is_large conclusion))
      ≡ heavy

pub record SizedResolution (mode : SelectionMode) (c : TreeClause) (i : ℕ) (conclusion : TreeClause) (heavy : Bool) : Type 0 where
  pub named : NamedResolution mode c i conclusion
  pub size : (is_large (clause_instance named.unifier c) || is_large conclusion) ≡ heavy

pub record SizedFactoring
    (is_predicate : ℕ → Bool) (mode : SelectionMode) (c : TreeClause) (i : ℕ) (side_i : Side) (j : ℕ) (side_j : Side)
    (conclusion : TreeClause) (heavy : Bool) : Type 0 where
  pub named : NamedFactoring is_predicate mode c i side_i j side_j conclusion
  pub size : (is_large (clause_instance named.unifier c) || is_large conclusion) ≡ heavy

-- The inference of that name has this conclusion, and is heavy or not.
abbrev pub IsSizedInference : (ℕ → Bool) → SelectionMode → (ℕ → Option TreeClause) → Key → TreeClause → Bool → Type 0
IsSizedInference is_predicate mode clauses (Para first from from_side second into into_side place) c heavy =
    OfTwo clauses first second (λ p q. SizedSuperposition is_predicate mode p from from_side q into into_side place c heavy)
IsSizedInference is_predicate mode clauses (Refl clause literal) c heavy = OfOne clauses clause (λ p. SizedResolution mode p literal c heavy)
IsSizedInference is_predicate mode clauses (Factor clause becomes becomes_side other other_side) c heavy =
    OfOne clauses clause (λ p. SizedFactoring is_predicate mode p becomes becomes_side other other_side c heavy)
IsSizedInference is_predicate mode clauses (Replaced clause) c heavy = ⊥
