-- The components of a clause: the finest parts that share no variables.
use mathlib.Core.Bool.{beq}
use Rattle.std.specs.Prelude.{◌≡◌, ℕ, Bool, true, List, [], ◌∷◌, length, map, IsTrue}
use Rattle.std.specs.List.{list_all}
use Rattle.fol_base.specs.Clause.{TreeLiteral}
use Rattle.kernel_steps.specs.Split.{is_part, is_rising, share_out, literals_at, share_variable, share_no_variables}

-- the first place of each part
abbrev pub first_places : List (List ℕ) → List ℕ
first_places [] = []
first_places ([] ∷ parts) = first_places parts
first_places ((k ∷ ks) ∷ parts) = k ∷ first_places parts

-- a property of places that is the same wherever two literals share a variable
abbrev pub FollowsVariables : List TreeLiteral → (ℕ → Bool) → Type 0
FollowsVariables ls f = (i j : ℕ) → IsTrue (share_variable (literals_at ls (i ∷ [])) (literals_at ls (j ∷ []))) → f i ≡ f j

-- a property is the same at all places of a part
abbrev pub is_constant_on : (ℕ → Bool) → List ℕ → Bool
is_constant_on f [] = true
is_constant_on f (k ∷ ks) = list_all (λ j. beq (f j) (f k)) ks

-- Parts share out the literals, no variable is in two of them, they stand in the order of their first literals, and none falls into
-- two that share no variables: what is the same wherever literals share a variable is the same on all of a part.
pub record IsComponents (ls : List TreeLiteral) (parts : List (List ℕ)) : Type 0 where
  pub are_parts : IsTrue (list_all is_part parts)
  pub shared_out : IsTrue (share_out (length ls) parts)
  pub apart : IsTrue (share_no_variables (map (literals_at ls) parts))
  pub in_order : IsTrue (is_rising (first_places parts))
  pub whole : (f : ℕ → Bool) → FollowsVariables ls f → IsTrue (list_all (is_constant_on f) parts)
