-- The number of clauses in a list, and their sizes in occurrences of symbols and variables.
use Rattle.std.specs.Prelude.{ℕ, zero, suc, ◌+◌, ◌*◌, max, List, [], ◌∷◌, length, sum_by}
use Rattle.fol_base.specs.Clause.{literal_size}
use Rattle.signature.specs.Clausal.{Literals}
use Rattle.plain_types.specs.Capped.{capped}
use Rattle.clausal_form.specs.declared.measure.Measure.{Measure}

-- the symbols of one clause
abbrev pub literals_size : Literals → ℕ
literals_size c = sum_by literal_size c

-- the symbols of all clauses
abbrev pub symbols_in : List Literals → ℕ
symbols_in cs = sum_by literals_size cs

-- the symbols of the largest clause, 0 where there is none
abbrev pub largest : List Literals → ℕ
largest [] = 0
largest (c ∷ cs) = max (literals_size c) (largest cs)

-- the number of clauses, the symbols of all, and those of the largest
pub record ClauseMeasure : Type 0 where
  pub clauses : ℕ
  pub symbols : ℕ
  pub largest : ℕ

abbrev pub measured : List Literals → ClauseMeasure
measured cs = record { clauses = length cs; symbols = symbols_in cs; largest = largest cs }

-- one list after another
abbrev pub sum_measure : ClauseMeasure → ClauseMeasure → ClauseMeasure
sum_measure a b =
    record { clauses = a.clauses + b.clauses; symbols = a.symbols + b.symbols; largest = max a.largest b.largest }

-- the size of the largest clause of a product, which is 0 if the product has no clauses
abbrev pub product_largest : ℕ → ℕ → ℕ
product_largest zero largest = 0
product_largest (suc n) largest = largest

-- their product, which has the literals of both
abbrev pub product_measure : ClauseMeasure → ClauseMeasure → ClauseMeasure
product_measure a b =
    record {
      clauses = a.clauses * b.clauses;
      symbols = a.symbols * b.clauses + b.symbols * a.clauses;
      largest = product_largest (a.clauses * b.clauses) (a.largest + b.largest);
    }

-- ---- the program's measures, of which the symbols stop at u64's last value

abbrev pub capped_measure : ClauseMeasure → ClauseMeasure
capped_measure a = record { clauses = a.clauses; symbols = capped a.symbols; largest = capped a.largest }

abbrev pub measure_of : Measure → ClauseMeasure
measure_of a = record { clauses = a.clauses; symbols = a.symbols; largest = a.largest }

-- the program's measure of a list of clauses
abbrev pub capped_measured : List Literals → ClauseMeasure
capped_measured cs = capped_measure (measured cs)
