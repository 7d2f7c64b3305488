-- Tables: a list of numbers for each number.
use Rattle.std.specs.Prelude.{ℕ, ◌<◌, ◌*◌, ◌-◌, ◌^◌, min, Bool, false, ◌==◌, nat_le, List, [], ◌∷◌, length, filter, flat_map, All, slice_index_or}
use Rattle.std.specs.List.{list_any}
use Rattle.axiom_filter.specs.Places.{places_from}

abbrev pub has_number : ℕ → List ℕ → Bool
has_number n row = list_any (λ m. n == m) row

abbrev pub is_marked : List Bool → ℕ → Bool
is_marked marks n = slice_index_or marks n false

abbrev pub is_empty_row : List ℕ → Bool
is_empty_row row = length row == 0

abbrev pub row_of : List (List ℕ) → ℕ → List ℕ
row_of table n = slice_index_or table n []

-- each number in the table is below a bound
abbrev pub AreBelow : ℕ → List ℕ → Type 0
AreBelow bound row = All (λ n. n < bound) row

abbrev pub AreRowsBelow : ℕ → List (List ℕ) → Type 0
AreRowsBelow bound table = All (AreBelow bound) table

-- what the rows of these numbers have
abbrev pub neighbours : List (List ℕ) → List ℕ → List ℕ
neighbours table from = flat_map (row_of table) from

-- the places of the rows with a number
abbrev pub rows_with : ℕ → List (List ℕ) → List ℕ
rows_with n rows = places_from 0 (has_number n) rows

-- the length of the shortest of an index's lists that a row names
abbrev pub least_length : List (List ℕ) → List ℕ → ℕ
least_length index [] = 2 ^ 64 - 1
least_length index (n ∷ row) = min (length (row_of index n)) (least_length index row)

-- of each list of an index those places at which its length is small enough beside the number there
abbrev pub rare_enough : ℕ → List ℕ → List ℕ → List ℕ
rare_enough tolerance rarest places =
    filter (λ place. nat_le (100 * length places) (tolerance * slice_index_or rarest place 0)) places

abbrev pub ends_with_number : List ℕ → ℕ → Bool
ends_with_number [] n = false
ends_with_number (m ∷ []) n = m == n
ends_with_number (m ∷ (k ∷ ms)) n = ends_with_number (k ∷ ms) n
