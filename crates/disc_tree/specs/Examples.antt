-- A tree of three entries and a test of numbers, for the worked examples.
use Rattle.std.specs.Prelude.{◌≡◌, ℕ, ◌==◌, List, [], ◌∷◌, Option, None, Some, Result, Ok, if◌then◌else◌}
use Rattle.fol_base.specs.Tree.{Tree}
use Rattle.fol_base.specs.Examples.{x, a, b, f₂, g}

abbrev pub three : List (Tree × ℕ)
three = (f₂ (x 0) a, 1) ∷ (f₂ b (x 0), 2) ∷ (g a, 3) ∷ []

-- a test that accepts 2 alone, and makes 7 of it
abbrev pub accepts_two : ℕ → Result (Option ℕ) ℕ → Type 0
accepts_two n r = r ≡ Ok (if n == 2 then Some 7 else None)
