-- Where a bank keeps its terms: in rows of places, which are filled one after another.
use Rattle.std.specs.Prelude.{◌≡◌, ℕ, zero, suc, ◌+◌, ◌*◌, ◌^◌, ◌<◌, min, List, [], ◌∷◌, length, slice_index_or}
use Rattle.boxcar.specs.Slot.{Named}
use Rattle.term_bank.specs.declared.rows.TheConstants.{ROWS, SHORTER}

-- the places of a row: 32 * 2^k of row k, and no more than 2^32
abbrev pub row_length : ℕ → ℕ
row_length row = 32 * 2 ^ min row SHORTER

-- the places of all rows before this one
abbrev pub places_before : ℕ → ℕ
places_before zero = 0
places_before (suc row) = places_before row + row_length row

-- the row and the place in it of the term that comes after so many others
abbrev pub IsPlaceOf : ℕ → ℕ → ℕ → Type 0
IsPlaceOf index row place = (row < ROWS) × (place < row_length row) × (places_before row + place ≡ index)

-- so many rows, each tagged with its number
abbrev pub AreNumbered : ℕ → List Named → Type 0
AreNumbered count rows = (length rows ≡ count) × ((row : ℕ) (d : Named) → row < count → (slice_index_or rows row d).tag ≡ row ∷ [])

-- the row has its places, by the number in its tag
abbrev pub HasLength : List ℕ → List Named → Type 0
HasLength tag places = (row : ℕ) → tag ≡ row ∷ [] → length places ≡ row_length row
