-- The prefixes of the names that the clausal form makes.
use Rattle.std.specs.Prelude.{ℕ, zero, suc, ◌+◌, ◌<◌, max, ◌==◌, nat_eq, Bool, List, [], ◌∷◌, ◌++◌, length, drop, IsTrue, IsFalse, if◌then◌else◌}
use Rattle.std.specs.List.{list_any, starts_with}
use Rattle.signature.specs.declared.symbol.Symbol.{Symbol}

-- n bytes `_`
abbrev pub underscores : ℕ → List ℕ
underscores zero = []
underscores (suc n) = 95 ∷ underscores n

-- how many `_` the text begins with
abbrev pub underscore_run : List ℕ → ℕ
underscore_run [] = 0
underscore_run (b ∷ bs) = if b == 95 then underscore_run bs + 1 else 0

-- How many `_` have to follow the base so that the name doesn't begin with the result.
abbrev pub needed_after : List ℕ → List ℕ → ℕ
needed_after base name = if starts_with nat_eq name base then underscore_run (drop (length base) name) + 1 else 0

-- how many `_` have to follow the base so that no symbol's name begins with the result
abbrev pub needed : List Symbol → List ℕ → ℕ
needed [] base = 0
needed (s ∷ ss) base = max (needed_after base s.name) (needed ss base)

-- The base and the least number of `_` with which no symbol's name begins.
abbrev pub fresh_prefix_of : List Symbol → List ℕ → List ℕ
fresh_prefix_of symbols base = base ++ underscores (needed symbols base)

-- ---- law

-- whether some symbol's name begins with these bytes
abbrev pub some_begins_with : List ℕ → List Symbol → Bool
some_begins_with start symbols = list_any (λ (s : Symbol). starts_with nat_eq s.name start) symbols

-- no name begins with the prefix, and with fewer `_` some name does
abbrev pub PrefixIsLeast : Type 0
PrefixIsLeast =
    (symbols : List Symbol) (base : List ℕ)
    → IsFalse (some_begins_with (fresh_prefix_of symbols base) symbols)
    × ((n : ℕ) → n < needed symbols base → IsTrue (some_begins_with (base ++ underscores n) symbols))
