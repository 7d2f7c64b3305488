-- What sizes tell of the order on the literals of an instance.
use Rattle.std.specs.Prelude.{◌≡◌, ℕ, ◌<◌, max, List, slice_get, Some}
use Rattle.fol_base.specs.Tree.{tree_size}
use Rattle.fol_base.specs.Instance.{Substitution, instance}
use Rattle.fol_base.specs.Clause.{TreeLiteral}

-- the symbols of the larger side of a literal's instance
abbrev pub larger_size : Substitution → TreeLiteral → ℕ
larger_size σ l = max (tree_size (instance σ l.left)) (tree_size (instance σ l.right))

-- in the instance the literal with an index has a side with more symbols than each side of the other literals but one
abbrev pub Outsizes : Substitution → List TreeLiteral → ℕ → ℕ → Type 0
Outsizes σ ls i but =
    (l : TreeLiteral) (j : ℕ) (m : TreeLiteral)
    → slice_get ls i ≡ Some l → slice_get ls j ≡ Some m → (j ≡ i → ⊥) → (j ≡ but → ⊥) → larger_size σ m < larger_size σ l
