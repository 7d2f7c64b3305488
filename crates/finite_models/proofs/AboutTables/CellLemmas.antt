-- The table that is read off a valuation: its cells are in order, it is one of an interpretation, and its entries are those of the valuation.
use Rattle.std.proofs.Common.{◌≡◌, ℕ, zero, suc, ◌+◌, ◌-◌, ◌*◌, ◌^◌, ◌<◌, ◌≤◌, ◌==◌, Bool, true, false, not, ◌&&◌, ◌||◌, List, [], ◌∷◌, ◌++◌, length, map, flat_map, if◌then◌else◌, refl, ap, ap₂, sym, ◌∙◌, subst, arith, ◌⊎◌, inl, inr, ⊎_elim}
use lib.Pointwise.{pointwise}
use Rattle.std.specs.Prelude.{slice_index_or}
use Rattle.std.specs.List.{AllByRecursion, list_any, list_all}
use Rattle.std.proofs.lemmas.Bool.{and_parts, and_from, or_cases, cases_Bool, eqb-true, eq-eqb, lt-ltb, ltb-true, true≢false, cond-true, cond-false}
use Rattle.std.proofs.lemmas.List.{map-append}
use Rattle.list_lemmas.proofs.Tests.{any-map}
use Rattle.fol_base.specs.Canonical.{numbers_from}
use Rattle.fol_base.specs.Interpretation.{Row, Interpretation, IsInterpretation, row_in_range, is_row_of, table_value, symbol_value}
use Rattle.sat_core.specs.Clause.{Valuation}
use Rattle.signature.specs.declared.symbol.Symbol.{Symbol}
use Rattle.clausal_form.specs.FormFunctions.{is_predicate_in}
use Rattle.clausal_form.specs.FormLaws.{arity_in, use_of}
use Rattle.finite_models.specs.declared.answer.Cell.{Cell}
use Rattle.finite_models.specs.declared.entry_names.EntryNames.{EntryNames}
use Rattle.finite_models.specs.Agreement.{Agrees}
use Rattle.finite_models.specs.Digits.{digits, digits_number}
use Rattle.finite_models.specs.Found.{row_of, place_of_cell, symbol_places, cell_places}
use Rattle.finite_models.specs.EntryNames.{entries_of}
use Rattle.finite_models.specs.Translation.{value_name, has_value, has_no_lower, has_no_two, is_function, symbol_true, symbols_true}
use Rattle.finite_models.specs.Table.{first_passing, entry_value, value_at, cell_at, symbol_cells, table_cells}
use Rattle.finite_models.proofs.AboutNumbers.ListLemmas.{each-joined, number-passes, each-number, any-number, any-left, any-right}
use Rattle.finite_models.proofs.AboutNumbers.DigitLemmas.{number-of-digits, digits-number-below, digits-of-number}
use Rattle.finite_models.proofs.AboutTables.ChosenLemmas.{passing-below, passing-alone}

-- ---- lists

mapped-again : {X Y Z : Type 0} (g : Y → Z) (f : X → Y) (xs : List X) → map g (map f xs) ≡ map (λ x. g (f x)) xs
mapped-again g f [] = refl
mapped-again g f (x ∷ xs) = ap (λ zs. g (f x) ∷ zs) (mapped-again g f xs)

each-mapped : {X Y : Type 0} (P : Y → Type 0) (f : X → Y) (xs : List X) → AllByRecursion (λ x. P (f x)) xs → AllByRecursion P (map f xs)
each-mapped P f [] h = tt
each-mapped P f (x ∷ xs) h = (h.0, each-mapped P f xs h.1)

each-all : {X : Type 0} (p : X → Bool) (xs : List X) → AllByRecursion (λ x. p x ≡ true) xs → list_all p xs ≡ true
each-all p [] h = refl
each-all p (x ∷ xs) h = and_from (p x) (list_all p xs) h.0 (each-all p xs h.1)

same-values : (us vs : List ℕ) → pointwise ◌==◌ us vs ≡ true → us ≡ vs
same-values [] [] h = refl
same-values [] (v ∷ vs) h = absurd (true≢false (sym h))
same-values (u ∷ us) [] h = absurd (true≢false (sym h))
same-values (u ∷ us) (v ∷ vs) h =
    let parts = and_parts (u == v) (pointwise ◌==◌ us vs) h in ap₂ ◌∷◌ (eqb-true u v parts.0) (same-values us vs parts.1)

same-there : (vs : List ℕ) → pointwise ◌==◌ vs vs ≡ true
same-there [] = refl
same-there (v ∷ vs) = and_from (v == v) (pointwise ◌==◌ vs vs) (eq-eqb v v refl) (same-there vs)

-- ---- a look-up in rows whose values are told by a function

look-up :
    (g : ℕ → List ℕ → ℕ) (rows : List Row) (f : ℕ) (vs : List ℕ)
    → AllByRecursion (λ (r : Row). r.value ≡ g r.symbol r.arguments) rows → list_any (is_row_of f vs) rows ≡ true
    → table_value rows f vs ≡ g f vs
look-up g [] f vs h k = absurd (true≢false (sym k))
look-up g (r ∷ rows) f vs h k = by (cases_Bool (is_row_of f vs r)) (look-up g rows f vs h.1)
  where
    by :
        (is_row_of f vs r ≡ true) ⊎ (is_row_of f vs r ≡ false) → (list_any (is_row_of f vs) rows ≡ true → table_value rows f vs ≡ g f vs)
        → (if is_row_of f vs r then r.value else table_value rows f vs) ≡ g f vs
    by (inl e) rest =
        let parts = and_parts (r.symbol == f) (pointwise ◌==◌ r.arguments vs) e in
        cond-true (is_row_of f vs r) r.value (table_value rows f vs) e
        ∙ h.0
        ∙ ap₂ g (eqb-true r.symbol f parts.0) (same-values r.arguments vs parts.1)
    by (inr e) rest =
        cond-false (is_row_of f vs r) r.value (table_value rows f vs) e
        ∙ rest (sym (ap (λ b. b || list_any (is_row_of f vs) rows) e) ∙ k)

-- ---- the cells of a table whose values are told, by a symbol and the number of its arguments

module _ (symbols : List Symbol) (size : ℕ) (value : ℕ → ℕ → ℕ) (some : 1 ≤ size) where
  abbrev told_cell : ℕ → ℕ → Cell
  told_cell f number = record { symbol = f; arguments = digits size (arity_in symbols f) number; value = value f number }

  abbrev told_symbol : ℕ → List Cell
  told_symbol f = map (told_cell f) (numbers_from 0 (size ^ arity_in symbols f))

  abbrev told_of : List ℕ → List Cell
  told_of fs = flat_map told_symbol fs

  abbrev pub told_cells : List Cell
  told_cells = told_of (numbers_from 1 (length symbols - 1))

  abbrev pub told_rows : List Row
  told_rows = map row_of told_cells

  abbrev pub told_table : Interpretation
  told_table = record { size = size; rows = told_rows }

  pub told-in-order : map place_of_cell told_cells ≡ cell_places symbols size
  told-in-order = by (numbers_from 1 (length symbols - 1))
    where
      by : (fs : List ℕ) → map place_of_cell (told_of fs) ≡ flat_map (λ f. symbol_places size (arity_in symbols f) f) fs
      by [] = refl
      by (f ∷ fs) =
          map-append place_of_cell (told_symbol f) (told_of fs)
          ∙ ap₂ ◌++◌ (mapped-again place_of_cell (told_cell f) (numbers_from 0 (size ^ arity_in symbols f))) (by fs)

  -- what holds of each cell
  each-cell :
      (P : Cell → Type 0) (fs : List ℕ)
      → ((f number : ℕ) → number < size ^ arity_in symbols f → P (told_cell f number))
      → AllByRecursion P (told_of fs)
  each-cell P [] h = tt
  each-cell P (f ∷ fs) h =
      each-joined P (told_symbol f) (told_of fs)
      (each-mapped P (told_cell f) (numbers_from 0 (size ^ arity_in symbols f))
      (each-number (λ number. P (told_cell f number)) 0 (size ^ arity_in symbols f)
      (λ number l m. h f number (low number (size ^ arity_in symbols f) m))))
      (each-cell P fs h)
    where
      low : (a b : ℕ) → a < 0 + b → a < b
      low a b h = omega (arith, h)

  pub told-interprets :
      ((f number : ℕ) → value f number < (if is_predicate_in symbols f then 2 else size)) → IsInterpretation (is_predicate_in symbols) told_table
  told-interprets in-range =
      record {
        has_value = some;
        rows_in_range =
            each-all (row_in_range (is_predicate_in symbols) size) told_rows
            (each-mapped (λ r. row_in_range (is_predicate_in symbols) size r ≡ true) row_of told_cells
            (each-cell (λ c. row_in_range (is_predicate_in symbols) size (row_of c) ≡ true) (numbers_from 1 (length symbols - 1))
            (λ f number m. lt-ltb (value f number) (if is_predicate_in symbols f then 2 else size) (in-range f number))));
      }

  -- a symbol's value is that of the cell with these arguments
  cell-there :
      (fs : List ℕ) (f number : ℕ) → list_any (λ g. g == f) fs ≡ true → number < size ^ arity_in symbols f
      → list_any (λ (c : Cell). is_row_of f (digits size (arity_in symbols f) number) (row_of c)) (told_of fs) ≡ true
  cell-there [] f number h m = absurd (true≢false (sym h))
  cell-there (g ∷ fs) f number h m =
      ⊎_elim
      (λ e.
      any-left (λ (c : Cell). is_row_of f vs (row_of c)) (told_symbol g) (told_of fs)
      (subst (λ k. list_any (λ (c : Cell). is_row_of f vs (row_of c)) (told_symbol k) ≡ true) (sym (eqb-true g f e)) here))
      (λ e. any-right (λ (c : Cell). is_row_of f vs (row_of c)) (told_symbol g) (told_of fs) (cell-there fs f number e m))
      (or_cases (g == f) (list_any (λ k. k == f) fs) h)
    where
      vs : List ℕ
      vs = digits size (arity_in symbols f) number

      here : list_any (λ (c : Cell). is_row_of f vs (row_of c)) (told_symbol f) ≡ true
      here =
          any-map (λ (c : Cell). is_row_of f vs (row_of c)) (told_cell f) (numbers_from 0 (size ^ arity_in symbols f))
          ∙ any-number (λ k. is_row_of f vs (row_of (told_cell f k))) 0 (size ^ arity_in symbols f) number (omega arith) (omega (arith, m))
          (and_from (f == f) (pointwise ◌==◌ vs vs) (eq-eqb f f refl) (same-there vs))

  pub told-at :
      (f : ℕ) (vs : List ℕ) → (f == 0) ≡ false → f < length symbols → length vs ≡ arity_in symbols f → AllByRecursion (λ v. v < size) vs
      → symbol_value told_table f vs ≡ value f (digits_number size vs)
  told-at f vs z known long below =
      cond-false (f == 0) 1 (table_value told_rows f vs) z
      ∙ look-up (λ g us. value g (digits_number size us)) told_rows f vs
      (each-mapped (λ (r : Row). r.value ≡ value r.symbol (digits_number size r.arguments)) row_of told_cells
      (each-cell (λ (c : Cell). c.value ≡ value c.symbol (digits_number size c.arguments)) (numbers_from 1 (length symbols - 1))
      (λ g number m. ap (value g) (sym (number-of-digits size (arity_in symbols g) number some m)))))
      (any-map (is_row_of f vs) row_of told_cells
      ∙ subst (λ us. list_any (λ (c : Cell). is_row_of f us (row_of c)) told_cells ≡ true)
      (subst (λ k. digits size k (digits_number size vs) ≡ vs) long (digits-of-number size vs below))
      (cell-there (numbers_from 1 (length symbols - 1)) f (digits_number size vs)
      (any-number (λ g. g == f) 1 (length symbols - 1) f (positive f z) (later f (length symbols) known) (eq-eqb f f refl))
      (subst (λ k. digits_number size vs < size ^ k) long (digits-number-below size vs below))))
    where
      positive : (g : ℕ) → (g == 0) ≡ false → 1 ≤ g
      positive zero h = absurd (true≢false h)
      positive (suc g) h = omega arith

      later : (g l : ℕ) → g < l → g < 1 + (l - 1)
      later g l h = omega (arith, h)

-- ---- the table that is read off a valuation

module _ (symbols : List Symbol) (n : EntryNames) (valuation : Valuation) (some : 1 ≤ n.size) where
  pub cells-in-order : map place_of_cell (table_cells symbols n valuation) ≡ cell_places symbols n.size
  cells-in-order = told-in-order symbols n.size (value_at symbols n valuation) some

  abbrev pub table : Interpretation
  table = record { size = n.size; rows = map row_of (table_cells symbols n valuation) }

  pub table-interprets : IsInterpretation (is_predicate_in symbols) table
  table-interprets = told-interprets symbols n.size (value_at symbols n valuation) some in-range
    where
      in-range : (f number : ℕ) → value_at symbols n valuation f number < (if is_predicate_in symbols f then 2 else n.size)
      in-range f number = by (is_predicate_in symbols f)
        where
          first : ℕ
          first = slice_index_or n.firsts.items f 0

          rows_of : ℕ
          rows_of = n.size ^ arity_in symbols f

          bit : (b : Bool) → (if b then 1 else 0) < 2
          bit true = omega arith
          bit false = omega arith

          by : (b : Bool) → entry_value b n.size first rows_of valuation number < (if b then 2 else n.size)
          by true = bit (valuation (first + number))
          by false = passing-below (λ v. valuation (value_name first rows_of number v)) 0 n.size n.size some (omega arith)

  table-at :
      (f : ℕ) (vs : List ℕ) → (f == 0) ≡ false → f < length symbols → length vs ≡ arity_in symbols f → AllByRecursion (λ v. v < n.size) vs
      → symbol_value table f vs ≡ value_at symbols n valuation f (digits_number n.size vs)
  table-at f vs z known long below = told-at symbols n.size (value_at symbols n valuation) some f vs z known long below

  -- where each function has one value at each list of arguments, the entries are those of the table
  pub table-agrees : symbols_true symbols n valuation ≡ true → Agrees (use_of symbols) (length symbols) (entries_of valuation n) table
  table-agrees h =
      record {
        functions = λ f v vs z known function long below w.
            ap (λ (k : ℕ). valuation (slice_index_or n.firsts.items f 0 + (v * n.size ^ k + digits_number n.size vs))) long
            ∙ alone f v (digits_number n.size vs) (ltb-true f (length symbols) known) function
            (subst (λ k. digits_number n.size vs < n.size ^ k) long (digits-number-below n.size vs below)) w
            ∙ ap (λ (k : ℕ). k == v)
            (sym (kind-value f (digits_number n.size vs) false function) ∙ sym (table-at f vs z (ltb-true f (length symbols) known) long below));
        predicates = λ f vs z known predicate long below.
            bit (valuation (slice_index_or n.firsts.items f 0 + digits_number n.size vs))
            ∙ ap (λ (k : ℕ). k == 1)
            (sym (kind-value f (digits_number n.size vs) true predicate) ∙ sym (table-at f vs z (ltb-true f (length symbols) known) long below));
      }
    where
      kind-value :
          (f number : ℕ) (b : Bool) → is_predicate_in symbols f ≡ b
          → value_at symbols n valuation f number
          ≡ entry_value b n.size (slice_index_or n.firsts.items f 0) (n.size ^ arity_in symbols f) valuation number
      kind-value f number b e =
          ap (λ k. entry_value k n.size (slice_index_or n.firsts.items f 0) (n.size ^ arity_in symbols f) valuation number) e

      bit : (b : Bool) → b ≡ ((if b then 1 else 0) == 1)
      bit true = refl
      bit false = refl

      alone :
          (f v number : ℕ) → f < length symbols → is_predicate_in symbols f ≡ false → number < n.size ^ arity_in symbols f → v < n.size
          → valuation (value_name (slice_index_or n.firsts.items f 0) (n.size ^ arity_in symbols f) number v)
          ≡ (first_passing (λ a. valuation (value_name (slice_index_or n.firsts.items f 0) (n.size ^ arity_in symbols f) number a)) 0 n.size == v)
      alone f v number known function m w =
          passing-alone (λ a. valuation (value_name first rows_of number a)) n.size some here.0
          (λ b c k l.
          number-passes (λ c. not (valuation (value_name first rows_of number c)) || not (valuation (value_name first rows_of number b))) 0 b c
          (number-passes (λ b. has_no_lower first rows_of number b valuation) 0 n.size b here.1 (omega arith) (omega (arith, k)))
          (omega arith) (omega (arith, l))) v w
        where
          first : ℕ
          first = slice_index_or n.firsts.items f 0

          rows_of : ℕ
          rows_of = n.size ^ arity_in symbols f

          here : (has_value n.size first rows_of number valuation ≡ true) × (has_no_two n.size first rows_of number valuation ≡ true)
          here =
              and_parts (has_value n.size first rows_of number valuation) (has_no_two n.size first rows_of number valuation)
              (number-passes (λ k. has_value n.size first rows_of k valuation && has_no_two n.size first rows_of k valuation) 0 rows_of number
              (sym (cond-false (is_predicate_in symbols f) true (is_function n.size first rows_of valuation) function)
              ∙ number-passes (symbol_true symbols n valuation) 0 (length symbols) f h (omega arith) (omega (arith, known)))
              (omega arith) (omega (arith, m)))
