-- The places of the elements that pass a test.
use Rattle.std.specs.Prelude.{ℕ, suc, Bool, if◌then◌else◌, List, [], ◌∷◌}

-- rising; the first element has that number
abbrev pub places_from : {X : Type 0} → ℕ → (X → Bool) → List X → List ℕ
places_from first test [] = []
places_from first test (x ∷ xs) = if test x then first ∷ places_from (suc first) test xs else places_from (suc first) test xs
