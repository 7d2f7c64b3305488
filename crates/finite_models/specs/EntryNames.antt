-- The propositional names of the entries of tables: those of a symbol stand together, an entry's place among them is its number.
use Rattle.std.specs.Prelude.{◌≡◌, ℕ, ◌+◌, ◌^◌, ◌<◌, ◌&&◌, nat_lt, Bool, true, List, length, map, take, sum_by, slice_index_or, if◌then◌else◌}
use Rattle.sat_core.specs.Clause.{Valuation}
use Rattle.signature.specs.declared.symbol.Symbol.{Symbol}
use Rattle.signature.specs.Symbol.{is_predicate_kind}
use Rattle.finite_models.specs.declared.flat.FlatLiteral.{FlatLiteral}
use Rattle.finite_models.specs.declared.flat.FlatLiteral.TheVariants.{Entry, Same, Constant}
use Rattle.finite_models.specs.declared.entry_names.EntryNames.{EntryNames}
use Rattle.finite_models.specs.Digits.{digits_number}
use Rattle.finite_models.specs.Flattening.{Entries, value_in}

-- how many values an entry has: a function's value comes before its arguments
abbrev pub entry_width : Symbol → ℕ
entry_width s = if is_predicate_kind s.kind then s.arity else s.arity + 1

abbrev pub entry_count : ℕ → Symbol → ℕ
entry_count size s = size ^ entry_width s

-- the names for the symbols of a signature, at their size
pub record AreEntryNames (symbols : List Symbol) (n : EntryNames) : Type 0 where
  pub symbols_are : length n.firsts.items ≡ length symbols
  pub first : (f : ℕ) → f < length symbols → slice_index_or n.firsts.items f 0 ≡ sum_by (entry_count n.size) (take f symbols)
  pub count_is : n.count ≡ sum_by (entry_count n.size) symbols

abbrev pub entry_name : EntryNames → ℕ → List ℕ → ℕ
entry_name n f values = slice_index_or n.firsts.items f 0 + digits_number n.size values

-- the entries that a valuation makes true
abbrev pub entries_of : Valuation → EntryNames → Entries
entries_of valuation n f values = valuation (entry_name n f values)

-- the symbol of a flat literal has names, and the one that the literal has under these values is among those that there are
abbrev pub flat_fits : EntryNames → List ℕ → FlatLiteral → Bool
flat_fits n values (Entry positive f slots) =
    nat_lt f (length n.firsts.items) && nat_lt (entry_name n f (map (value_in values) slots)) n.count
flat_fits n values (Same positive x y) = true
flat_fits n values (Constant truth) = true
