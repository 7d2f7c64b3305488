-- The table that is read off a valuation.
use Rattle.std.specs.Prelude.{ℕ, zero, suc, ◌+◌, ◌-◌, ◌^◌, Bool, List, map, flat_map, length, slice_index_or, if◌then◌else◌}
use Rattle.fol_base.specs.Canonical.{numbers_from}
use Rattle.sat_core.specs.Clause.{Valuation}
use Rattle.signature.specs.declared.symbol.Symbol.{Symbol}
use Rattle.clausal_form.specs.FormFunctions.{is_predicate_in}
use Rattle.clausal_form.specs.FormLaws.{arity_in}
use Rattle.finite_models.specs.declared.answer.Cell.{Cell}
use Rattle.finite_models.specs.declared.entry_names.EntryNames.{EntryNames}
use Rattle.finite_models.specs.Digits.{digits}
use Rattle.finite_models.specs.Translation.{value_name}

-- the first number from `first` on that passes a test, of that many; 0 where none does
abbrev pub first_passing : (ℕ → Bool) → ℕ → ℕ → ℕ
first_passing test first zero = 0
first_passing test first (suc count) = if test first then first else first_passing test (suc first) count

-- What a symbol whose names begin at `first` gives at the arguments with a number below `rows`: a predicate's value is 1 where it holds, a
-- function's is the first that its entries have.
abbrev pub entry_value : Bool → ℕ → ℕ → ℕ → Valuation → ℕ → ℕ
entry_value is_predicate size first rows valuation number =
    if is_predicate then (if valuation (first + number) then 1 else 0)
    else first_passing (λ v. valuation (value_name first rows number v)) 0 size

abbrev pub value_at : List Symbol → EntryNames → Valuation → ℕ → ℕ → ℕ
value_at symbols n valuation f number =
    entry_value (is_predicate_in symbols f) n.size (slice_index_or n.firsts.items f 0) (n.size ^ arity_in symbols f) valuation number

abbrev pub cell_at : List Symbol → EntryNames → Valuation → ℕ → ℕ → Cell
cell_at symbols n valuation f number =
    record {
      symbol = f;
      arguments = digits n.size (arity_in symbols f) number;
      value = value_at symbols n valuation f number;
    }

abbrev pub symbol_cells : List Symbol → EntryNames → Valuation → ℕ → List Cell
symbol_cells symbols n valuation f =
    map (cell_at symbols n valuation f) (numbers_from 0 (n.size ^ arity_in symbols f))

abbrev pub table_cells : List Symbol → EntryNames → Valuation → List Cell
table_cells symbols n valuation = flat_map (symbol_cells symbols n valuation) (numbers_from 1 (length symbols - 1))
