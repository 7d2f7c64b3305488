-- The names that a report shows of a file.
use Rattle.std.specs.Prelude.{ℕ, Bool, false, ◌&&◌, ◌||◌, ◌==◌, nat_le, List, [], ◌∷◌, map, take, length, ◌-◌, nat_eq, if◌then◌else◌, codes}
use Rattle.std.specs.List.{ends_with}

-- a byte outside 32 to 126 is shown as a question mark
abbrev pub shown_byte : ℕ → ℕ
shown_byte b = if nat_le 32 b && nat_le b 126 then b else 63

abbrev pub shown : List ℕ → List ℕ
shown bytes = map shown_byte bytes

-- a path after its last slash, or the whole path if it has none
abbrev pub has_slash : List ℕ → Bool
has_slash [] = false
has_slash (b ∷ bs) = b == 47 || has_slash bs

abbrev pub after_last_slash : List ℕ → List ℕ
after_last_slash [] = []
after_last_slash (b ∷ bs) = if has_slash (b ∷ bs) then after_last_slash bs else b ∷ bs

-- a name without a final `.p`
abbrev pub without_suffix : List ℕ → List ℕ
without_suffix bytes = if ends_with nat_eq bytes (codes ".p") then take (length bytes - 2) bytes else bytes

-- the name of the problem in a file
abbrev pub problem_name : List ℕ → List ℕ
problem_name file = shown (without_suffix (after_last_slash file))
