-- The parts into which a clause falls (Voronkov 2014): the connected components of its literals, where literals that share a variable are
-- linked.
use Rattle.std.specs.Prelude.{ℕ, zero, suc, Bool, false, ◌&&◌, ◌||◌, ◌==◌, nat_lt, List, [], ◌∷◌, length, map, filter}
use Rattle.std.specs.List.{range_with_len}
use Rattle.fol_base.specs.Clause.{TreeLiteral}
use Rattle.kernel_steps.specs.Split.{has_number, literals_at, share_variable, canonical_literals}
use Rattle.split_parts.specs.Components.{IsComponents}

abbrev pub places : List TreeLiteral → List ℕ
places ls = range_with_len 0 (length ls)

-- the places of the list, and those of the literals that share a variable with a literal at one of them; rising
abbrev pub reached : List TreeLiteral → List ℕ → List ℕ
reached ls ks = filter (λ j. has_number j ks || share_variable (literals_at ls (j ∷ [])) (literals_at ls ks)) (places ls)

-- the places reached in n steps
abbrev pub reached_in : ℕ → List TreeLiteral → List ℕ → List ℕ
reached_in zero ls ks = ks
reached_in (suc n) ls ks = reached_in n ls (reached ls ks)

-- the component of the literal at a place: no path is longer than there are literals
abbrev pub component_of : List TreeLiteral → ℕ → List ℕ
component_of ls k = reached_in (length ls) ls (k ∷ [])

abbrev pub begins_at : ℕ → List ℕ → Bool
begins_at k [] = false
begins_at k (j ∷ js) = k == j

-- the components, in the order of their first literals
abbrev pub components_of : List TreeLiteral → List (List ℕ)
components_of ls = map (component_of ls) (filter (λ k. begins_at k (component_of ls k)) (places ls))

-- the parts: the literals of the components, each in canonical form
abbrev pub parts_of : List TreeLiteral → List (List TreeLiteral)
parts_of ls = map (λ ks. canonical_literals (literals_at ls ks)) (components_of ls)

-- a clause is split where splitting is on and it has two parts or more
abbrev pub is_to_split : Bool → List TreeLiteral → Bool
is_to_split split ls = split && nat_lt 1 (length (components_of ls))

-- ---- a law

-- the components are the finest parts that share no variables
abbrev pub ComponentsAreFinest : Type 0
ComponentsAreFinest = (ls : List TreeLiteral) → IsComponents ls (components_of ls)
