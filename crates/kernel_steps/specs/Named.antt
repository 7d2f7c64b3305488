-- Inferences by their names: which conclusion the inference of a name has, among clauses that are looked up by their numbers.
use Rattle.std.specs.Prelude.{◌≡◌, ℕ, Bool, Option, Some}
use Rattle.fol_base.specs.Clause.{TreeClause}
use Rattle.fol_base.specs.Selection.{SelectionMode}
use Rattle.kernel_steps.specs.Inference.{NamedSuperposition, NamedResolution, NamedFactoring}
use Rattle.kernel_steps.specs.declared.key.Key.{Key}
use Rattle.kernel_steps.specs.declared.key.Key.TheVariants.{Para, Refl, Factor, Replaced}

-- an inference from the two clauses with these numbers, which may be one clause
pub record OfTwo (clauses : ℕ → Option TreeClause) (first second : ℕ) (Infers : TreeClause → TreeClause → Type 0) : Type 0 where
  pub first_clause : TreeClause
  pub first_there : clauses first ≡ Some first_clause
  pub second_clause : TreeClause
  pub second_there : clauses second ≡ Some second_clause
  pub infers : Infers first_clause second_clause

-- an inference from the clause with this number
pub record OfOne (clauses : ℕ → Option TreeClause) (number : ℕ) (Infers : TreeClause → Type 0) : Type 0 where
  pub clause : TreeClause
  pub there : clauses number ≡ Some clause
  pub infers : Infers clause

-- The inference with this name has this conclusion. A clause that was replaced is no inference.
abbrev pub IsInference : (ℕ → Bool) → SelectionMode → (ℕ → Option TreeClause) → Key → TreeClause → Type 0
IsInference is_predicate mode clauses (Para first from from_side second into into_side place) c =
    OfTwo clauses first second (λ p q. NamedSuperposition is_predicate mode p from from_side q into into_side place c)
IsInference is_predicate mode clauses (Refl clause literal) c = OfOne clauses clause (λ p. NamedResolution mode p literal c)
IsInference is_predicate mode clauses (Factor clause becomes becomes_side other other_side) c =
    OfOne clauses clause (λ p. NamedFactoring is_predicate mode p becomes becomes_side other other_side c)
IsInference is_predicate mode clauses (Replaced clause) c = ⊥
