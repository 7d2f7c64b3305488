-- A table of the places of numbers in a list.
use Rattle.std.specs.Prelude.{◌≡◌, ℕ, ◌+◌, ◌<◌, ◌^◌, List, length, slice_get, unwrap_or}
use Rattle.tstp_writer.specs.LineTrees.{Layout, place_in}

-- the place of a number by the table; the count of numbers if the table has none for it
abbrev pub told_place : List ℕ → ℕ → ℕ → ℕ
told_place table count n = unwrap_or (slice_get table n) count

abbrev pub TellsPlaces : List ℕ → List ℕ → Type 0
TellsPlaces table numbers = (n : ℕ) → told_place table (length numbers) n ≡ place_in n numbers

-- the lines are counted by a machine word
abbrev pub IsCounted : Layout → Type 0
IsCounted l = length l.cited + length l.negated + length l.numbers < 2 ^ 64
