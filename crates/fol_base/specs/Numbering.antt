-- The numbers of variables that are met one after another.
use Rattle.std.specs.Prelude.{◌≡◌, ℕ, ◌+◌, ◌^◌, ◌≤◌, max, nat_eq, nat_le, List, [], ◌∷◌, ◌++◌, take, fold, Option, Some, None, is_some, if◌then◌else◌}
use Rattle.std.specs.List.{IsDistinct}
use Rattle.std.specs.HashMap.{HashMap, get}
use Rattle.std.specs.declared.hash.FoldHasher.{FoldHasher}
use Rattle.std.specs.declared.hash.BuildHasherDefault.{BuildHasherDefault}
use Rattle.fol_base.specs.Canonical.{place_of, bound_of}
use Rattle.fol_base.specs.declared.numbering.TheConstants.{SCANNED}

-- the variables that were met, and one more: it comes last, unless it was met
abbrev pub with_variable : List ℕ → ℕ → List ℕ
with_variable order v = if is_some (place_of v order) then order else order ++ v ∷ []

-- the list after several variables were met, one after another
abbrev pub with_variables : List ℕ → List ℕ → List ℕ
with_variables order vs = fold with_variable order vs

-- how many variables were met after those of a list, if each of them is one of the first n or has the next number
abbrev pub count_after : ℕ → List ℕ → Option ℕ
count_after n [] = Some n
count_after n (v ∷ vs) = if nat_le v n then count_after (max n (v + 1)) vs else None

-- no variable stands twice, each has a number below 2 ^ 32, and the map has the place of each that isn't scanned
pub record IsNumbering (order : List ℕ) (later : HashMap ℕ ℕ (BuildHasherDefault FoldHasher)) : Type 0 where
  pub once : IsDistinct nat_eq order
  pub bounded : bound_of order ≤ 2 ^ 32
  pub places : (v : ℕ) → place_of v (take SCANNED order) ≡ None → get nat_eq later v ≡ place_of v order
