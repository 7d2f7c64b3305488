-- New numbers of variables.
use Rattle.std.specs.Prelude.{◌≡◌, ℕ, ◌==◌, List, length, take, Option, None, Some, slice_index_or, if◌then◌else◌}
use Rattle.fol_base.specs.Canonical.{place_of, distinct, numbers_from}

-- each variable has the number of its place in the order, and none where it isn't there
abbrev pub AreNumbers : List ℕ → List (Option ℕ) → Type 0
AreNumbers order numbers = (v : ℕ) → slice_index_or numbers v None ≡ place_of v order

-- one variable more has a number, and the others are as they were
abbrev pub HasAlso : List (Option ℕ) → ℕ → ℕ → List (Option ℕ) → Type 0
HasAlso before variable number now =
    (v : ℕ) → slice_index_or now v None ≡ (if v == variable then Some number else slice_index_or before v None)

-- the variables that were met first have the numbers that they had
abbrev pub KeepsNumbers : List ℕ → List ℕ → Type 0
KeepsNumbers old new = take (length old) new ≡ old

-- variables that are numbered from 0 by first occurrence, without gaps
abbrev pub AreNumberedInOrder : List ℕ → Type 0
AreNumberedInOrder vs = let order = distinct vs in order ≡ numbers_from 0 (length order)
