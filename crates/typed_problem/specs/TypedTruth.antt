-- Typed interpretations, and the truth of a typed formula in one: each sort has values of its own, the numbers below its size, and
-- quantifiers range over the values of their variable's sort.
use Rattle.std.specs.Prelude.{◌≡◌, ◌≤◌, ℕ, suc, Bool, true, false, not, ◌&&◌, ◌||◌, ◌==◌, nat_lt, List, [], ◌∷◌, length, Option, None, Some, slice_get, IsTrue, if◌then◌else◌}
use mathlib.Core.Bool.{beq}
use Rattle.std.specs.List.{AllByRecursion, list_any, list_all}
use Rattle.tptp_tree.specs.Term.{TermTree, variable, application, TermTrees, no_terms, term_then}
use Rattle.tptp_tree.specs.Formula.{Quantifier, for_all, exists_some}
use Rattle.tptp_tree.specs.Entries.{is_conjecture}
use Rattle.fol_base.specs.Canonical.{numbers_from}
use Rattle.fol_base.specs.Interpretation.{Row, table_value, sides_true}
use Rattle.fol_base.specs.Tree.{true_symbol}
use Rattle.signature.specs.declared.symbol.Symbol.{Symbol}
use Rattle.signature.specs.Symbol.{is_predicate_kind, predicate_symbol, function_symbol, number_of}
use Rattle.signature.specs.Occurrences.{terms_count}
use Rattle.signature.specs.Truth.{Values, value_in_force, connective_true}
use Rattle.typed_tree.specs.Sorts.{SortTree}
use Rattle.typed_tree.specs.TypedFormula.{TypedVariable, TypedTree, truth, falsity, predicate, equation, negation, conjunction, disjunction, connected, quantified, TypedTrees, no_formulas, formula_then}
use Rattle.typed_problem.specs.Declarations.{sort_number, function_type, result_of, TypedAnnotatedTree, TypedProblemTree, all_declarations}
use Rattle.typed_problem.specs.Translation.{symbols_of}

-- how many values each sort has, by the sorts' numbers, and a table
pub record TypedInterpretation : Type 0 where
  pub sizes : List ℕ
  pub rows : List Row

-- the size at a number; 0 where there is none
abbrev pub size_or_none : Option ℕ → ℕ
size_or_none None = 0
size_or_none (Some n) = n

abbrev pub size_at : TypedInterpretation → ℕ → ℕ
size_at i number = size_or_none (slice_get i.sizes number)

abbrev pub size_of : List (List ℕ) → TypedInterpretation → SortTree → ℕ
size_of sorts i s = size_at i (sort_number sorts s)

-- A predicate's value is 0 for false or 1 for true, and a function's is below the size of its result's sort.
abbrev pub symbol_bound : TypedProblemTree → TypedInterpretation → Option Symbol → ℕ
symbol_bound t i None = 1
symbol_bound t i (Some s) =
    if is_predicate_kind s.kind then 2 else size_of t.sorts i (result_of (function_type (all_declarations t) s.name s.arity))

abbrev pub row_in_range : TypedProblemTree → TypedInterpretation → Row → Bool
row_in_range t i r = nat_lt r.value (symbol_bound t i (slice_get (symbols_of t) r.symbol))

-- Each sort has at least one value.
pub record IsTypedInterpretation (t : TypedProblemTree) (i : TypedInterpretation) : Type 0 where
  pub sized : length i.sizes ≡ suc (length t.sorts)
  pub has_values : AllByRecursion (λ n. 1 ≤ n) i.sizes
  pub rows_in_range : IsTrue (list_all (row_in_range t i) i.rows)

-- ---- truth

-- The first row of a symbol at these arguments counts, and where there is none the value is 0. `$true` has the value 1, whatever the
-- table has.
abbrev pub value_at : TypedInterpretation → ℕ → List ℕ → ℕ
value_at i f values = if f == true_symbol then 1 else table_value i.rows f values

abbrev mutual
  pub term_value : List Symbol → TypedInterpretation → Values → TermTree → ℕ
  term_value known i ρ (variable x) = value_in_force ρ x
  term_value known i ρ (application f ts) = value_at i (number_of known (function_symbol f (terms_count ts))) (terms_values known i ρ ts)

  pub terms_values : List Symbol → TypedInterpretation → Values → TermTrees → List ℕ
  terms_values known i ρ no_terms = []
  terms_values known i ρ (term_then t ts) = term_value known i ρ t ∷ terms_values known i ρ ts

-- whether a test holds for all, or for some, values of the variables
abbrev pub values_tested : List (List ℕ) → TypedInterpretation → Quantifier → List TypedVariable → (Values → Bool) → Values → Bool
values_tested sorts i q [] test ρ = test ρ
values_tested sorts i for_all (x ∷ xs) test ρ =
    list_all (λ v. values_tested sorts i for_all xs test ((x.name, v) ∷ ρ)) (numbers_from 0 (size_of sorts i x.sort))
values_tested sorts i exists_some (x ∷ xs) test ρ =
    list_any (λ v. values_tested sorts i exists_some xs test ((x.name, v) ∷ ρ)) (numbers_from 0 (size_of sorts i x.sort))

abbrev mutual
  pub typed_true : List (List ℕ) → List Symbol → TypedInterpretation → TypedTree → Values → Bool
  typed_true sorts known i truth ρ = true
  typed_true sorts known i falsity ρ = false
  typed_true sorts known i (predicate p ts) ρ =
      value_at i (number_of known (predicate_symbol p (terms_count ts))) (terms_values known i ρ ts) == 1
  typed_true sorts known i (equation positive s t) ρ = sides_true positive (term_value known i ρ s) (term_value known i ρ t)
  typed_true sorts known i (negation f) ρ = not (typed_true sorts known i f ρ)
  typed_true sorts known i (conjunction fs) ρ = all_typed_true sorts known i fs ρ
  typed_true sorts known i (disjunction fs) ρ = some_typed_true sorts known i fs ρ
  typed_true sorts known i (connected c f g) ρ = connective_true c (typed_true sorts known i f ρ) (typed_true sorts known i g ρ)
  typed_true sorts known i (quantified q xs f) ρ = values_tested sorts i q xs (typed_true sorts known i f) ρ

  pub all_typed_true : List (List ℕ) → List Symbol → TypedInterpretation → TypedTrees → Values → Bool
  all_typed_true sorts known i no_formulas ρ = true
  all_typed_true sorts known i (formula_then f fs) ρ = typed_true sorts known i f ρ && all_typed_true sorts known i fs ρ

  pub some_typed_true : List (List ℕ) → List Symbol → TypedInterpretation → TypedTrees → Values → Bool
  some_typed_true sorts known i no_formulas ρ = false
  some_typed_true sorts known i (formula_then f fs) ρ = typed_true sorts known i f ρ || some_typed_true sorts known i fs ρ

abbrev pub typed_formula_true : TypedProblemTree → TypedInterpretation → TypedAnnotatedTree → Bool
typed_formula_true t i a = typed_true t.sorts (symbols_of t) i a.formula []

-- the conjecture is false, and the other formulas are true
abbrev pub is_typed_model : TypedProblemTree → TypedInterpretation → Bool
is_typed_model t i = list_all (λ (a : TypedAnnotatedTree). beq (typed_formula_true t i a) (not (is_conjecture a.role))) t.formulas

-- ---- consequence

abbrev pub typed_axioms_true : TypedProblemTree → TypedInterpretation → Bool
typed_axioms_true t i = list_all (λ (a : TypedAnnotatedTree). is_conjecture a.role || typed_formula_true t i a) t.formulas

abbrev pub typed_conjecture_true : TypedProblemTree → TypedInterpretation → Bool
typed_conjecture_true t i = list_any (λ (a : TypedAnnotatedTree). is_conjecture a.role && typed_formula_true t i a) t.formulas

-- every typed finite interpretation that makes the axioms true makes the conjecture true
abbrev pub TypedConjectureFollows : TypedProblemTree → Type 0
TypedConjectureFollows t =
    (i : TypedInterpretation) → IsTypedInterpretation t i → IsTrue (typed_axioms_true t i) → IsTrue (typed_conjecture_true t i)
