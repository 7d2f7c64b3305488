-- Lists of values as numbers to a base, the first value the most significant digit.
use Rattle.std.specs.Prelude.{ℕ, zero, suc, ◌+◌, ◌*◌, ◌/◌, ◌%◌, ◌^◌, List, [], ◌∷◌, length}

-- that many digits of a number below base ^ count
abbrev pub digits : ℕ → ℕ → ℕ → List ℕ
digits base zero number = []
digits base (suc count) number = number / base ^ count ∷ digits base count (number % base ^ count)

-- the number with these digits
abbrev pub digits_number : ℕ → List ℕ → ℕ
digits_number base [] = 0
digits_number base (d ∷ ds) = d * base ^ length ds + digits_number base ds
