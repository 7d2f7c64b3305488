-- Lists that stand one after another in one list, told by the places where they end.
use Rattle.std.specs.Prelude.{◌≡◌, ℕ, ◌<◌, ◌≤◌, ◌^◌, List, [], ◌∷◌, length}
use Rattle.std.specs.List.{between}

-- each list begins where the one before ends, the first at a start
abbrev pub cut_from : {X : Type 0} → List X → ℕ → List ℕ → List (List X)
cut_from xs start [] = []
cut_from xs start (end ∷ ends) = between start end xs ∷ cut_from xs end ends

abbrev pub cut_out : {X : Type 0} → List X → List ℕ → List (List X)
cut_out xs ends = cut_from xs 0 ends

-- the ends don't fall, from a start, and the last of them is the length
abbrev pub AreEnds : ℕ → List ℕ → ℕ → Type 0
AreEnds start [] n = start ≡ n
AreEnds start (end ∷ ends) n = (start ≤ end) × AreEnds end ends n

-- and the values have places of 32 bits
abbrev pub AreCut : {X : Type 0} → List X → List ℕ → Type 0
AreCut xs ends = AreEnds 0 ends (length xs) × (length xs < 2 ^ 32)
