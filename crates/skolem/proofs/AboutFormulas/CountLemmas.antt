-- How many Skolem symbols a matrix has.
use Rattle.std.proofs.Common.{◌≡◌, ℕ, ◌+◌, Bool, true, false, not, List, [], ◌∷◌, ◌++◌, length, refl, arith}
use Rattle.std.specs.Prelude.{if◌then◌else◌}
use Rattle.tptp_tree.specs.Formula.{implies, implied, equivalent, different, nor, nand, Quantifier, for_all, exists_some, FormulaTree, truth, falsity, predicate, equation, negation, conjunction, disjunction, connected, quantified, FormulaTrees, no_formulas, formula_then}
use Rattle.signature.specs.Environment.{Environment, free_names, without_names}
use Rattle.signature.specs.Clausal.{SymbolNumbers, Made, Scope, with_variables, with_skolem_terms, skolem_arguments, scope_of, makes_variables}
use Rattle.signature.specs.Form.{skolem_count, all_skolem_count}
use Rattle.formula_nnf.specs.NormalForm.{constant_form, list_form, pair_form, quantifier_form, normal_form, normal_forms}
use Rattle.skolem.specs.Skolemized.{skolemized, skolemized_list}
use Rattle.skolem.specs.SkolemizedLaws.{SkolemSymbolsOfMatrixAreCounted}
use Rattle.list_lemmas.proofs.Lists.{length-pushed}

abbrev count : Made → ℕ
count m = length m.skolem_arities

-- the work makes that many
abbrev Adds : SymbolNumbers → FormulaTree → Environment → ℕ → Type 0
Adds n f env k = (m : Made) → count (skolemized n f env m).made ≡ count m + k

abbrev AddsAll : SymbolNumbers → FormulaTrees → Environment → ℕ → Type 0
AddsAll n fs env k = (m : Made) → count (skolemized_list n fs env m).made ≡ count m + k

list-adds : (n : SymbolNumbers) (all : Bool) (fs : FormulaTrees) (env : Environment) (k : ℕ) → AddsAll n fs env k → Adds n (list_form all fs) env k
list-adds n true fs env k h m = h m
list-adds n false fs env k h m = h m

pair-adds :
    (n : SymbolNumbers) (all : Bool) (f g : FormulaTree) (env : Environment) (j k : ℕ)
    → Adds n f env j → Adds n g env k → Adds n (pair_form all f g) env (j + k)
pair-adds n all f g env j k h i =
    list-adds n all (formula_then f (formula_then g no_formulas)) env (j + k) (λ m. omega (arith, h m, i (skolemized n f env m).made))

variables-add : (xs : List (List ℕ)) (env : Environment) (m : Made) → count (with_variables xs env m).made ≡ count m
variables-add [] env m = refl
variables-add (x ∷ xs) env m = variables-add xs _ _

terms-add : (n : SymbolNumbers) (free xs : List (List ℕ)) (env : Environment) (m : Made) → count (with_skolem_terms n free xs env m).made ≡ count m + length xs
terms-add n free [] env m = omega arith
terms-add n free (x ∷ xs) env m =
    let arguments : List ℕ = skolem_arguments (without_names (x ∷ xs) free) env m in
    let rest : count (with_skolem_terms n free (x ∷ xs) env m).made ≡ length (m.skolem_arities ++ length arguments ∷ []) + length xs =
    terms-add n free xs _ _ in
    omega (arith, rest, length-pushed m.skolem_arities (length arguments))

scope-adds :
    (n : SymbolNumbers) (q : Quantifier) (sign : Bool) (xs : List (List ℕ)) (f : FormulaTree) (env : Environment) (m : Made)
    → count (scope_of n (makes_variables (quantifier_form sign q) true) xs f env m).made ≡ count m + (if makes_variables q sign then 0 else length xs)
scope-adds n for_all true xs f env m = omega (arith, variables-add xs env m)
scope-adds n for_all false xs f env m = omega (arith, terms-add n (free_names f) xs env m)
scope-adds n exists_some true xs f env m = omega (arith, terms-add n (free_names f) xs env m)
scope-adds n exists_some false xs f env m = omega (arith, variables-add xs env m)

doubled-adds :
    (n : SymbolNumbers) (a b c d : FormulaTree) (env : Environment) (i j k l total : ℕ)
    → Adds n a env i → Adds n b env j → Adds n c env k → Adds n d env l → (i + j) + (k + l) ≡ total
    → Adds n (pair_form true (pair_form false a b) (pair_form false c d)) env total
doubled-adds n a b c d env i j k l total f g h p e m =
    omega (
      arith,
      pair-adds n true (pair_form false a b) (pair_form false c d) env (i + j) (k + l)
          (pair-adds n false a b env i j f g) (pair-adds n false c d env k l h p) m,
      e,
    )

same-sum : (sign : Bool) (f g : FormulaTree) → (skolem_count f (not sign) + skolem_count g true) + (skolem_count f sign + skolem_count g false) ≡ (skolem_count f true + skolem_count f false) + (skolem_count g true + skolem_count g false)
same-sum true f g = omega arith
same-sum false f g = omega arith

other-sum : (sign : Bool) (f g : FormulaTree) → (skolem_count f sign + skolem_count g true) + (skolem_count f (not sign) + skolem_count g false) ≡ (skolem_count f true + skolem_count f false) + (skolem_count g true + skolem_count g false)
other-sum true f g = omega arith
other-sum false f g = omega arith

constant-adds : (n : SymbolNumbers) (sign : Bool) (env : Environment) → Adds n (constant_form sign) env 0
constant-adds n true env m = omega arith
constant-adds n false env m = omega arith

mutual
  form-adds : (n : SymbolNumbers) (f : FormulaTree) (sign : Bool) (env : Environment) → Adds n (normal_form f sign) env (skolem_count f sign)
  form-adds n truth sign env m = constant-adds n sign env m
  form-adds n falsity sign env m = constant-adds n (not sign) env m
  form-adds n (predicate p ts) true env m = omega arith
  form-adds n (predicate p ts) false env m = omega arith
  form-adds n (equation positive s t) sign env m = omega arith
  form-adds n (negation f) sign env m = form-adds n f (not sign) env m
  form-adds n (conjunction fs) sign env m = list-adds n sign (normal_forms fs sign) env _ (forms-add n fs sign env) m
  form-adds n (disjunction fs) sign env m = list-adds n (not sign) (normal_forms fs sign) env _ (forms-add n fs sign env) m
  form-adds n (connected implies f g) sign env m =
      pair-adds n (not sign) (normal_form f (not sign)) (normal_form g sign) env _ _ (form-adds n f (not sign) env) (form-adds n g sign env) m
  form-adds n (connected implied f g) sign env m =
      pair-adds n (not sign) (normal_form f sign) (normal_form g (not sign)) env _ _ (form-adds n f sign env) (form-adds n g (not sign) env) m
  form-adds n (connected nor f g) sign env m =
      pair-adds n sign (normal_form f (not sign)) (normal_form g (not sign)) env _ _ (form-adds n f (not sign) env) (form-adds n g (not sign) env) m
  form-adds n (connected nand f g) sign env m =
      pair-adds n (not sign) (normal_form f (not sign)) (normal_form g (not sign)) env _ _ (form-adds n f (not sign) env) (form-adds n g (not sign) env) m
  form-adds n (connected equivalent f g) sign env m =
      doubled-adds n (normal_form f (not sign)) (normal_form g true) (normal_form f sign) (normal_form g false) env
      (skolem_count f (not sign)) (skolem_count g true) (skolem_count f sign) (skolem_count g false) _
      (form-adds n f (not sign) env) (form-adds n g true env) (form-adds n f sign env) (form-adds n g false env) (same-sum sign f g) m
  form-adds n (connected different f g) sign env m =
      doubled-adds n (normal_form f sign) (normal_form g true) (normal_form f (not sign)) (normal_form g false) env
      (skolem_count f sign) (skolem_count g true) (skolem_count f (not sign)) (skolem_count g false) _
      (form-adds n f sign env) (form-adds n g true env) (form-adds n f (not sign) env) (form-adds n g false env) (other-sum sign f g) m
  form-adds n (quantified q xs f) sign env m =
      let s : Scope = scope_of n (makes_variables (quantifier_form sign q) true) xs (normal_form f sign) env m in
      let inner : count (skolemized n (normal_form f sign) s.environment s.made).made ≡ count s.made + skolem_count f sign =
      form-adds n f sign s.environment s.made in
      omega (arith, inner, scope-adds n q sign xs (normal_form f sign) env m)

  forms-add : (n : SymbolNumbers) (fs : FormulaTrees) (sign : Bool) (env : Environment) → AddsAll n (normal_forms fs sign) env (all_skolem_count fs sign)
  forms-add n no_formulas sign env m = omega arith
  forms-add n (formula_then f fs) sign env m =
      omega (arith, form-adds n f sign env m, forms-add n fs sign env (skolemized n (normal_form f sign) env m).made)

pub skolem_symbols_of_matrix_are_counted : SkolemSymbolsOfMatrixAreCounted
skolem_symbols_of_matrix_are_counted n f sign env m = form-adds n f sign env m
