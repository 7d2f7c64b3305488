-- Laws of components.
use Rattle.std.specs.Prelude.{◌≡◌, ℕ, not, ◌<◌, ◌==◌, List, [], ◌∷◌, length, map, slice_index_or, Option, IsTrue}
use Rattle.std.specs.List.{range_with_len}
use Rattle.fol_base.specs.Clause.{TreeLiteral}
use Rattle.kernel_steps.specs.Parents.{Parent}
use Rattle.kernel_steps.specs.Split.{literals_at, are_defined, can_split}
use Rattle.split_parts.specs.Components.{IsComponents}

-- the definition leaves no choice
abbrev pub ComponentsAreUnique : Type 0
ComponentsAreUnique = (ls : List TreeLiteral) (parts others : List (List ℕ)) → IsComponents ls parts → IsComponents ls others → parts ≡ others

-- the literals of a component are one component
abbrev pub ComponentsAreWhole : Type 0
ComponentsAreWhole =
    (ls : List TreeLiteral) (parts : List (List ℕ)) (a : ℕ)
    → IsComponents ls parts → a < length parts
    → IsComponents (literals_at ls (slice_index_or parts a [])) (range_with_len 0 (length (slice_index_or parts a [])) ∷ [])

-- with a definition for each part, the components of a clause with a literal meet the condition of a split
abbrev pub ComponentsSplit : Type 0
ComponentsSplit =
    (ls : List TreeLiteral) (os : List (Option Parent)) (parts : List (List ℕ))
    → IsTrue (not (length ls == 0)) → IsComponents ls parts → IsTrue (are_defined os (map (literals_at ls) parts)) → IsTrue (can_split ls os parts)
