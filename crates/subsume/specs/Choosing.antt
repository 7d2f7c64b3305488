-- Literals that come into question as instances of a literal, as their kinds, their symbols and the terms of the variables so far tell.
use Rattle.std.specs.Prelude.{◌≡◌, ◌<◌, ℕ, Bool, true, List, slice_get, Some, All, IsTrue}
use Rattle.fol_base.specs.Tree.{Tree}
use Rattle.fol_base.specs.Instance.{Substitution, instance}
use Rattle.fol_base.specs.Clause.{TreeLiteral, literal_instance}
use Rattle.fol_base.specs.Order.{equivalent_literals}
use Rattle.unifier.specs.Matching.{HasPairs}
use Rattle.subsume.specs.Kinds.{TurnsInto, are_alike}
use Rattle.subsume.specs.Placing.{is_free}

-- what is refused, no substitution that has the pairs does: the first tree doesn't become the second
abbrev pub MayBecome : List (ℕ × Tree) → Tree → Tree → Bool → Type 0
MayBecome pairs t u answer = (σ : Substitution) → HasPairs pairs σ → instance σ t ≡ u → answer ≡ true

-- the sides of the first literal don't become the same sides of the second
abbrev pub MayTurn : List (ℕ × Tree) → TreeLiteral → TreeLiteral → Bool → Type 0
MayTurn pairs l m answer = (σ : Substitution) → HasPairs pairs σ → TurnsInto σ l m → answer ≡ true

-- the first literal doesn't become the second, which is alike, sides in either order
abbrev pub MayStand : List (ℕ × Tree) → TreeLiteral → TreeLiteral → Bool → Type 0
MayStand pairs l m answer =
    (σ : Substitution) → HasPairs pairs σ → are_alike l m ≡ true → IsTrue (equivalent_literals (literal_instance σ l) m) → answer ≡ true

-- a literal is no instance of the first one, sides in either order, or not alike
abbrev pub IsNoPartner : List (ℕ × Tree) → TreeLiteral → TreeLiteral → Type 0
IsNoPartner pairs l m =
    (σ : Substitution) → HasPairs pairs σ → are_alike l m ≡ true → IsTrue (equivalent_literals (literal_instance σ l) m) → ⊥

-- nor is any of a list, up to an index, that is free
abbrev pub HasNoPartner : List (ℕ × Tree) → List Bool → TreeLiteral → List TreeLiteral → ℕ → Type 0
HasNoPartner pairs used l ds bound =
    (k : ℕ) (m : TreeLiteral) → k < bound → slice_get ds k ≡ Some m → is_free used k ≡ true → IsNoPartner pairs l m

-- nor is any of a list
abbrev pub AreNoPartners : List (ℕ × Tree) → TreeLiteral → List TreeLiteral → Type 0
AreNoPartners pairs l ds = All (IsNoPartner pairs l) ds
