-- Tables of names, in which the number of a name is its place.
use Rattle.std.specs.Prelude.{ℕ, List, [], ◌∷◌, ◌++◌, map, bytes_eq, if◌then◌else◌}
use Rattle.std.specs.List.{list_any, position_or_len}
use Rattle.std.specs.Global.{Vec}

-- the texts of vectors of bytes
abbrev pub texts_of : List (Vec ℕ) → List (List ℕ)
texts_of vs = map (λ (v : Vec ℕ). v.items) vs

-- a name that is met for the first time comes at the end
abbrev pub with_name : List (List ℕ) → List ℕ → List (List ℕ)
with_name names x = if list_any (bytes_eq x) names then names else names ++ x ∷ []

-- the number of a name that is there
abbrev pub place_of_name : List (List ℕ) → List ℕ → ℕ
place_of_name names x = position_or_len (bytes_eq x) names
