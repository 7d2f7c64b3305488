-- Constants in order (Claessen, Sörensson 2003). Which of two values is which makes no difference to a form, so the first constant may be asked to
-- have the value 0, the second 0 or 1, and so on.
use Rattle.std.specs.Prelude.{ℕ, zero, suc, ◌+◌, Bool, true, false, not, ◌||◌, nat_lt, List, length, option_map, unwrap_or, slice_get, slice_index_or, if◌then◌else◌}
use Rattle.std.specs.List.{list_all}
use Rattle.fol_base.specs.Canonical.{numbers_from}
use Rattle.sat_core.specs.Clause.{Valuation}
use Rattle.signature.specs.declared.symbol.Symbol.{Symbol}
use Rattle.signature.specs.Form.{is_constant}
use Rattle.finite_models.specs.declared.entry_names.EntryNames.{EntryNames}

-- whether the symbol with a number is a constant
abbrev pub is_constant_in : List Symbol → ℕ → Bool
is_constant_in symbols f = unwrap_or (option_map is_constant (slice_get symbols f)) false

-- how many constants have lower numbers
abbrev pub constants_before : List Symbol → ℕ → ℕ
constants_before symbols zero = 0
constants_before symbols (suc f) = constants_before symbols f + (if is_constant_in symbols f then 1 else 0)

-- The constant whose names begin at `first` has none of the values above `most`, of the values below a count.
abbrev pub has_none_above : ℕ → ℕ → ℕ → Valuation → Bool
has_none_above count first most valuation = list_all (λ v. not (nat_lt most v) || not (valuation (first + v))) (numbers_from 0 count)

-- A symbol whose names begin at `first`, where so many constants come before it, has one of the first values if it is a constant.
abbrev pub one_constant_true : ℕ → ℕ → ℕ → Symbol → Valuation → Bool
one_constant_true size first before s valuation = if is_constant s then has_none_above size first before valuation else true

-- the same for the symbol with a number
abbrev pub constant_true : List Symbol → EntryNames → Valuation → ℕ → Bool
constant_true symbols n valuation f =
    if is_constant_in symbols f then has_none_above n.size (slice_index_or n.firsts.items f 0) (constants_before symbols f) valuation else true

abbrev pub constants_true : List Symbol → EntryNames → Valuation → Bool
constants_true symbols n valuation = list_all (constant_true symbols n valuation) (numbers_from 0 (length symbols))
