-- Different lists of numbers, each by its place.
use Rattle.std.specs.Prelude.{ℕ, List, [], ◌∷◌, ◌++◌, map, bytes_eq, if◌then◌else◌}
use Rattle.std.specs.List.{list_any, position_or_len}
use Rattle.std.specs.Global.{Vec}

-- the lists of vectors of numbers
abbrev pub lists_of : List (Vec ℕ) → List (List ℕ)
lists_of vs = map (λ (v : Vec ℕ). v.items) vs

-- a list that is met for the first time comes at the end
abbrev pub with_key : List (List ℕ) → List ℕ → List (List ℕ)
with_key keys key = if list_any (bytes_eq key) keys then keys else keys ++ key ∷ []

-- the place of a list, that of a new one is after all others
abbrev pub place_of_key : List (List ℕ) → List ℕ → ℕ
place_of_key keys key = position_or_len (bytes_eq key) keys
