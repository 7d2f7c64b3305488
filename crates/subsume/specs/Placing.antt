-- The search for different literals of a clause onto which those of another one are mapped.
use Rattle.std.specs.Prelude.{ℕ, Bool, true, not, List, slice_index_or, Option, None, Some, IsTrue}
use Rattle.std.specs.List.{list_all}
use Rattle.fol_base.specs.Tree.{Tree}
use Rattle.fol_base.specs.Instance.{Substitution}
use Rattle.fol_base.specs.Clause.{TreeLiteral}
use Rattle.fol_base.specs.Kind.{PutsFunctionTerms}
use Rattle.fol_base.specs.Subsumption.{stand_at, all_different}
use Rattle.unifier.specs.Matching.{HasPairs}
use Rattle.subsume.specs.Kinds.{AreLiterals}

-- no literal was mapped to that place yet
abbrev pub is_free : List Bool → ℕ → Bool
is_free used k = not (slice_index_or used k true)

-- The substitution has the pairs, and its instances of the literals stand at different places that are free.
pub record IsPlaced
    (used : List Bool) (ls ds : List TreeLiteral) (pairs : List (ℕ × Tree)) (σ : Substitution) (places : List ℕ) : Type 0 where
  pub has_pairs : HasPairs pairs σ
  pub different : IsTrue (all_different places)
  pub free : IsTrue (list_all (is_free used) places)
  pub mapped : IsTrue (stand_at σ ls places ds)

-- at some places
abbrev pub Places : List Bool → List TreeLiteral → List TreeLiteral → List (ℕ × Tree) → Substitution → Type 0
Places used ls ds pairs σ = (places : List ℕ) × IsPlaced used ls ds pairs σ places

-- What a search answers: pairs, and each substitution that has them does what was asked; or none, and no substitution by function
-- terms does, where the literals are well-formed.
abbrev pub IsFoundFor : List TreeLiteral → List TreeLiteral → (Substitution → Type 0) → Option (List (ℕ × Tree)) → Type 0
IsFoundFor ls ds Does None =
    (is_predicate : ℕ → Bool) → AreLiterals is_predicate ls → AreLiterals is_predicate ds
    → (σ : Substitution) → PutsFunctionTerms is_predicate σ → Does σ → ⊥
IsFoundFor ls ds Does (Some pairs) = (σ : Substitution) → HasPairs pairs σ → Does σ
