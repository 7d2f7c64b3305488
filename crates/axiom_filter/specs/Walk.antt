-- The levels of a selection over tables: for each formula the numbers of its symbols, and for each symbol the places of the formulas that it
-- triggers.
use Rattle.std.specs.Prelude.{ℕ, zero, suc, List, [], ◌++◌}
use Rattle.axiom_filter.specs.Tables.{neighbours}

-- the symbols that are reached at a level
abbrev pub reached_numbers : List (List ℕ) → List (List ℕ) → List ℕ → ℕ → List ℕ
reached_numbers rows triggers goals zero = neighbours rows goals
reached_numbers rows triggers goals (suc level) =
    reached_numbers rows triggers goals level ++ neighbours rows (neighbours triggers (reached_numbers rows triggers goals level))

-- the formulas that are taken up to a level
abbrev pub taken_numbers : List (List ℕ) → List (List ℕ) → List ℕ → ℕ → List ℕ
taken_numbers rows triggers goals zero = []
taken_numbers rows triggers goals (suc level) =
    taken_numbers rows triggers goals level ++ neighbours triggers (reached_numbers rows triggers goals level)
