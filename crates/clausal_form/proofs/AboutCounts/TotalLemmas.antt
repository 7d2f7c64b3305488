-- The symbols of the literals in a matrix's clauses are no more than those of its clauses with the ones that define names; and those of a form, as
-- they are written, no more than those of its matrix.
use Rattle.std.proofs.Common.{◌≡◌, ℕ, ◌+◌, ◌≤◌, Bool, true, false, not, List, [], ◌∷◌, ◌++◌, length, map, refl, ap, sym, arith}
use Rattle.std.specs.Prelude.{nat_lt, if◌then◌else◌}
use Rattle.std.proofs.lemmas.Bool.{and_parts, true≢false}
use Rattle.std.proofs.lemmas.List.Sums.{sum_by-append, sum_by-cons}
use Rattle.tptp_tree.specs.Formula.{FormulaTree, truth, falsity, predicate, equation, negation, conjunction, disjunction, connected, quantified, FormulaTrees, no_formulas, formula_then}
use Rattle.fol_base.specs.Clause.{TreeLiteral, literal_size}
use Rattle.signature.specs.Environment.{Environment}
use Rattle.signature.specs.Clausal.{SymbolNumbers, Made, Worked, Scope, Literals, all_pairs, is_large, named, product, scope_of, makes_variables}
use Rattle.skolem.specs.Matrix.{MatrixTree, truth as true_matrix, falsity as false_matrix, literal, conjunction as all_of, disjunction as some_of, MatrixTrees, no_matrices, matrix_then}
use Rattle.skolem.specs.MatrixClauses.{matrix_clauses, listed_matrices, product_of_matrices}
use Rattle.skolem.specs.Skolemized.{skolemized, skolemized_list}
use Rattle.skolem.specs.Heavy.{has_clauses, all_have_clauses, matrix_total, matrix_totals, all_forms_have_clauses}
use Rattle.clausal_form.specs.Heavy.{written_total, written_totals}
use Rattle.clausal_form.specs.Measure.{literals_size, symbols_in}
use Rattle.skolem.proofs.AboutFormulas.HeavyLemmas.{all-forms-have}
use Rattle.clausal_form.proofs.AboutNaming.OccurringLemmas.{is_some}
use Rattle.clausal_form.proofs.AboutCounts.HeavyLemmas.{has-clauses, product-some, written-size, written-sizes}
use Rattle.clausal_form.proofs.AboutCounts.MeasureLemmas.{before-symbols, pairs-symbols}
use Rattle.list_lemmas.proofs.Numbers.{times-more}

-- the symbols of a work's clauses, and of those that define names
abbrev all_symbols : Worked → ℕ
all_symbols w = symbols_in w.clauses + symbols_in w.made.defining

some-length : (cs : List Literals) → is_some cs ≡ true → 1 ≤ length cs
some-length [] h = absurd (true≢false (sym h))
some-length (c ∷ cs) h = omega arith

pairs-more : (cs ds : List Literals) → is_some cs ≡ true → is_some ds ≡ true → symbols_in cs + symbols_in ds ≤ symbols_in (all_pairs cs ds)
pairs-more cs ds h k =
    omega (
      arith,
      pairs-symbols cs ds,
      times-more (symbols_in cs) (length ds) (some-length ds k),
      times-more (symbols_in ds) (length cs) (some-length cs h),
    )

-- the clauses that define a name have the symbols of those that it stands for
named-more :
    (n : SymbolNumbers) (began : ℕ) (cs : List Literals) (m : Made)
    → symbols_in m.defining + symbols_in cs ≤ symbols_in (named n began cs m).made.defining
named-more n began cs m = with-name _ refl
  where
    with-name : (l : TreeLiteral) → (named n began cs m).made.defining ≡ m.defining ++ map (λ c. l ∷ c) cs → symbols_in m.defining + symbols_in cs ≤ symbols_in (named n began cs m).made.defining
    with-name l e = omega (arith, ap symbols_in e, sum_by-append literals_size m.defining (map (λ c. l ∷ c) cs), before-symbols (l ∷ []) cs)

abbrev product_by : SymbolNumbers → ℕ → List Literals → List Literals → Bool → Bool → Made → Worked
product_by n began first second large longer m =
    if not large then record { clauses = all_pairs first second; made = m }
    else if longer then
    (let w : Worked = named n began second m in record { clauses = all_pairs first w.clauses; made = w.made })
    else (let w : Worked = named n began first m in record { clauses = all_pairs w.clauses second; made = w.made })

product-keeps : (n : SymbolNumbers) (began : ℕ) (cs ds : List Literals) (m : Made) → symbols_in m.defining ≤ symbols_in (product n began cs ds m).made.defining
product-keeps n began cs ds m = by (is_large cs ds) (nat_lt (length cs) (length ds))
  where
    by : (t u : Bool) → symbols_in m.defining ≤ symbols_in (product_by n began cs ds t u m).made.defining
    by false u = omega arith
    by true true = omega (arith, named-more n began ds m)
    by true false = omega (arith, named-more n began cs m)

product-more :
    (n : SymbolNumbers) (began : ℕ) (cs ds : List Literals) (m : Made) → is_some cs ≡ true → is_some ds ≡ true
    → symbols_in cs + symbols_in ds + symbols_in m.defining ≤ all_symbols (product n began cs ds m)
product-more n began cs ds m h k = by (is_large cs ds) (nat_lt (length cs) (length ds))
  where
    by : (t u : Bool) → symbols_in cs + symbols_in ds + symbols_in m.defining ≤ all_symbols (product_by n began cs ds t u m)
    by false u = omega (arith, pairs-more cs ds h k)
    by true true = omega (arith, named-more n began ds m, pairs-more cs (named n began ds m).clauses h refl)
    by true false = omega (arith, named-more n began cs m, pairs-more (named n began cs m).clauses ds refl k)

-- ---- what defines names stays

mutual
  keeps : (n : SymbolNumbers) (x : MatrixTree) (m : Made) → symbols_in m.defining ≤ symbols_in (matrix_clauses n x m).made.defining
  keeps n true_matrix m = omega arith
  keeps n false_matrix m = omega arith
  keeps n (literal l) m = omega arith
  keeps n (all_of xs) m = listed-keeps n xs m
  keeps n (some_of began xs) m = products-keep n began ([] ∷ []) xs m

  listed-keeps : (n : SymbolNumbers) (xs : MatrixTrees) (m : Made) → symbols_in m.defining ≤ symbols_in (listed_matrices n xs m).made.defining
  listed-keeps n no_matrices m = omega arith
  listed-keeps n (matrix_then x xs) m = omega (arith, keeps n x m, listed-keeps n xs (matrix_clauses n x m).made)

  products-keep :
      (n : SymbolNumbers) (began : ℕ) (cs : List Literals) (xs : MatrixTrees) (m : Made)
      → symbols_in m.defining ≤ symbols_in (product_of_matrices n began cs xs m).made.defining
  products-keep n began cs no_matrices m = omega arith
  products-keep n began cs (matrix_then x xs) m =
      let w : Worked = matrix_clauses n x m in
      let v : Worked = product n began cs w.clauses w.made in
      omega (arith, keeps n x m, product-keeps n began cs w.clauses w.made, products-keep n began v.clauses xs v.made)

-- ---- matrices

mutual
  pub total-so : (n : SymbolNumbers) (x : MatrixTree) (m : Made) → symbols_in m.defining + matrix_total x ≤ all_symbols (matrix_clauses n x m)
  total-so n true_matrix m = omega arith
  total-so n false_matrix m = omega arith
  total-so n (literal l) m = omega (arith, sum_by-cons literal_size l [], sum_by-cons literals_size (l ∷ []) [])
  total-so n (all_of xs) m = listed-total n xs m
  total-so n (some_of began xs) m = by (all_have_clauses xs) refl (product-total n began ([] ∷ []) xs m refl)
    where
      by :
          (t : Bool) → all_have_clauses xs ≡ t
          → (all_have_clauses xs ≡ true
          → symbols_in ([] ∷ []) + symbols_in m.defining + matrix_totals xs ≤ all_symbols (product_of_matrices n began ([] ∷ []) xs m))
          → symbols_in m.defining + (if t then matrix_totals xs else 0) ≤ all_symbols (matrix_clauses n (some_of began xs) m)
      by true e h = omega (arith, h e)
      by false e h = omega (arith, keeps n (some_of began xs) m)

  listed-total : (n : SymbolNumbers) (xs : MatrixTrees) (m : Made) → symbols_in m.defining + matrix_totals xs ≤ all_symbols (listed_matrices n xs m)
  listed-total n no_matrices m = omega arith
  listed-total n (matrix_then x xs) m =
      let w : Worked = matrix_clauses n x m in
      let v : Worked = listed_matrices n xs w.made in
      omega (arith, total-so n x m, listed-total n xs w.made, sum_by-append literals_size w.clauses v.clauses)

  product-total :
      (n : SymbolNumbers) (began : ℕ) (cs : List Literals) (xs : MatrixTrees) (m : Made)
      → is_some cs ≡ true → all_have_clauses xs ≡ true
      → symbols_in cs + symbols_in m.defining + matrix_totals xs ≤ all_symbols (product_of_matrices n began cs xs m)
  product-total n began cs no_matrices m h g = omega arith
  product-total n began cs (matrix_then x xs) m h g =
      let parts : (has_clauses x ≡ true) × (all_have_clauses xs ≡ true) = and_parts (has_clauses x) (all_have_clauses xs) g in
      let w : Worked = matrix_clauses n x m in
      let v : Worked = product n began cs w.clauses w.made in
      let some : is_some w.clauses ≡ true = has-clauses n x m parts.0 in
      omega (
        arith,
        total-so n x m,
        product-more n began cs w.clauses w.made h some,
        product-total n began v.clauses xs v.made (product-some n began cs w.clauses w.made h some) parts.1,
      )

-- ---- forms

negated-written : (n : SymbolNumbers) (f : FormulaTree) (env : Environment) (m : Made) → written_total (negation f) ≤ matrix_total (skolemized n (negation f) env m).matrix
negated-written n truth env m = omega arith
negated-written n falsity env m = omega arith
negated-written n (predicate p ts) env m = omega (arith, written-sizes n.symbols env ts)
negated-written n (equation positive s t) env m = omega arith
negated-written n (negation f) env m = omega arith
negated-written n (conjunction fs) env m = omega arith
negated-written n (disjunction fs) env m = omega arith
negated-written n (connected c f g) env m = omega arith
negated-written n (quantified q xs f) env m = omega arith

mutual
  pub written-more : (n : SymbolNumbers) (f : FormulaTree) (env : Environment) (m : Made) → written_total f ≤ matrix_total (skolemized n f env m).matrix
  written-more n truth env m = omega arith
  written-more n falsity env m = omega arith
  written-more n (predicate p ts) env m = omega (arith, written-sizes n.symbols env ts)
  written-more n (equation positive s t) env m = omega (arith, written-size n.symbols env s, written-size n.symbols env t)
  written-more n (negation f) env m = negated-written n f env m
  written-more n (conjunction fs) env m = written-list n fs env m
  written-more n (disjunction fs) env m =
      by (all_forms_have_clauses fs) (all_have_clauses (skolemized_list n fs env m).matrices) (all-forms-have n fs env m) (written-list n fs env m)
    where
      by :
          (t u : Bool) → (t ≡ true → u ≡ true) → written_totals fs ≤ matrix_totals (skolemized_list n fs env m).matrices
          → (if t then written_totals fs else 0) ≤ (if u then matrix_totals (skolemized_list n fs env m).matrices else 0)
      by false u h k = omega arith
      by true true h k = k
      by true false h k = absurd (true≢false (sym (h refl)))
  written-more n (connected c f g) env m = omega arith
  written-more n (quantified q xs f) env m =
      let s : Scope = scope_of n (makes_variables q true) xs f env m in
      written-more n f s.environment s.made

  written-list : (n : SymbolNumbers) (fs : FormulaTrees) (env : Environment) (m : Made) → written_totals fs ≤ matrix_totals (skolemized_list n fs env m).matrices
  written-list n no_formulas env m = omega arith
  written-list n (formula_then f fs) env m =
      omega (arith, written-more n f env m, written-list n fs env (skolemized n f env m).made)
