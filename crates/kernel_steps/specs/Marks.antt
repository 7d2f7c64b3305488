-- Marks of the numbers from 0 on.
use Rattle.std.specs.Prelude.{ℕ, suc, Bool, false, List, [], ◌∷◌, slice_get, unwrap_or, if◌then◌else◌}

-- whether a number has a mark; past the end of the list it has none
abbrev pub is_marked : List Bool → ℕ → Bool
is_marked marks n = unwrap_or (slice_get marks n) false

-- the numbers of the marked places, where the first place of the list has the number `first`
abbrev pub marked_numbers : ℕ → List Bool → List ℕ
marked_numbers first [] = []
marked_numbers first (mark ∷ marks) = if mark then first ∷ marked_numbers (suc first) marks else marked_numbers (suc first) marks
