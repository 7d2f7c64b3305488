-- How many Skolem symbols the work on a formula makes.
use Rattle.std.proofs.Common.{◌≡◌, ℕ, ◌+◌, Bool, true, false, not, List, [], ◌∷◌, ◌++◌, length, refl, arith}
use Rattle.std.specs.Prelude.{if◌then◌else◌, nat_lt}
use Rattle.tptp_tree.specs.Formula.{implies, implied, equivalent, different, nor, nand, FormulaTree, truth, falsity, predicate, equation, negation, conjunction, disjunction, connected, quantified, FormulaTrees, no_formulas, formula_then}
use Rattle.tptp_tree.specs.Entries.{is_conjecture}
use Rattle.tptp_tree.specs.declared.problem.Annotated.{Annotated}
use Rattle.signature.specs.Environment.{Environment, free_names, without_names, closed}
use Rattle.signature.specs.Clausal.{SymbolNumbers, Made, Worked, Scope, Literals, Work, all_pairs, is_large, named, product, joined, truth_value, with_variables, with_skolem_terms, skolem_arguments, scope_of, makes_variables, clauses_of, listed_clauses, product_clauses, begun, annotated_clauses, formed}
use Rattle.signature.specs.Form.{skolem_count, all_skolem_count, problem_skolem_count, symbol_numbers, problem_form, nothing_made}
use Rattle.signature.specs.FormLaws.{SkolemSymbolsAreCounted, SkolemSymbolsOfProblemAreCounted}
use Rattle.list_lemmas.proofs.Lists.{length-joined}

abbrev made_count : Made → ℕ
made_count m = length m.skolem_arities

-- the work makes that many
abbrev Adds : Work → ℕ → Type 0
Adds work k = (m : Made) → made_count (work m).made ≡ made_count m + k

product-count :
    (n : SymbolNumbers) (began : ℕ) (first second : List Literals) (m : Made) → made_count (product n began first second m).made ≡ made_count m
product-count n began first second m = by (is_large first second) (nat_lt (length first) (length second))
  where
    by :
        (t u : Bool)
        → (let r : Worked =
        (if not t then record { clauses = all_pairs first second; made = m }
        else if u then
        (let w : Worked = named n began second m in record { clauses = all_pairs first w.clauses; made = w.made })
        else (let w : Worked = named n began first m in record { clauses = all_pairs w.clauses second; made = w.made })) in
        made_count r.made ≡ made_count m)
    by false u = refl
    by true true = refl
    by true false = refl

joined-count :
    (n : SymbolNumbers) (listed : Bool) (first second : Work) (a b : ℕ)
    → Adds first a → Adds second b → Adds (joined n listed first second) (a + b)
joined-count n true first second a b f g m = omega (arith, f m, g (first m).made)
joined-count n false first second a b f g m =
    omega (arith, product-count n m.variables (first m).clauses (second (first m).made).clauses (second (first m).made).made, f m, g (first m).made)

doubled-count :
    (n : SymbolNumbers) (f g : Bool → Work) (i j : Bool → ℕ) (s t : Bool)
    → ((u : Bool) → Adds (f u) (i u)) → ((u : Bool) → Adds (g u) (j u))
    → Adds (joined n true (joined n false (f s) (g true)) (joined n false (f t) (g false))) ((i s + j true) + (i t + j false))
doubled-count n f g i j s t h k =
    joined-count n true (joined n false (f s) (g true)) (joined n false (f t) (g false)) (i s + j true) (i t + j false)
    (joined-count n false (f s) (g true) (i s) (j true) (h s) (k true))
    (joined-count n false (f t) (g false) (i t) (j false) (h t) (k false))

variables-count : (xs : List (List ℕ)) (env : Environment) (m : Made) → made_count (with_variables xs env m).made ≡ made_count m
variables-count [] env m = refl
variables-count (x ∷ xs) env m = variables-count xs _ _

terms-count :
    (n : SymbolNumbers) (free xs : List (List ℕ)) (env : Environment) (m : Made)
    → made_count (with_skolem_terms n free xs env m).made ≡ made_count m + length xs
terms-count n free [] env m = omega arith
terms-count n free (x ∷ xs) env m =
    let arguments : List ℕ = skolem_arguments (without_names (x ∷ xs) free) env m in
    let rest : made_count (with_skolem_terms n free (x ∷ xs) env m).made ≡ length (m.skolem_arities ++ length arguments ∷ []) + length xs =
    terms-count n free xs _ _ in
    omega (arith, rest, length-joined m.skolem_arities (length arguments ∷ []))

scope-count :
    (n : SymbolNumbers) (new : Bool) (xs : List (List ℕ)) (f : FormulaTree) (env : Environment) (m : Made)
    → made_count (scope_of n new xs f env m).made ≡ made_count m + (if new then 0 else length xs)
scope-count n true xs f env m = omega (arith, variables-count xs env m)
scope-count n false xs f env m = omega (arith, terms-count n (free_names f) xs env m)

truth-count : (sign : Bool) (m : Made) → made_count (truth_value sign m).made ≡ made_count m + 0
truth-count true m = omega arith
truth-count false m = omega arith

mutual
  clauses-count : (n : SymbolNumbers) (f : FormulaTree) (sign : Bool) (env : Environment) → Adds (clauses_of n f sign env) (skolem_count f sign)
  clauses-count n truth sign env m = truth-count sign m
  clauses-count n falsity sign env m = truth-count (not sign) m
  clauses-count n (predicate p ts) sign env m = omega arith
  clauses-count n (equation positive s t) sign env m = omega arith
  clauses-count n (negation f) sign env m = clauses-count n f (not sign) env m
  clauses-count n (conjunction fs) true env m = listed-count n fs true env m
  clauses-count n (conjunction fs) false env m = products-count n m.variables ([] ∷ []) fs false env m
  clauses-count n (disjunction fs) true env m = products-count n m.variables ([] ∷ []) fs true env m
  clauses-count n (disjunction fs) false env m = listed-count n fs false env m
  clauses-count n (connected implies f g) sign env m =
      joined-count n (not sign) (clauses_of n f (not sign) env) (clauses_of n g sign env) _ _ (clauses-count n f (not sign) env) (clauses-count n g sign env) m
  clauses-count n (connected implied f g) sign env m =
      joined-count n (not sign) (clauses_of n f sign env) (clauses_of n g (not sign) env) _ _ (clauses-count n f sign env) (clauses-count n g (not sign) env) m
  clauses-count n (connected nor f g) sign env m =
      joined-count n sign (clauses_of n f (not sign) env) (clauses_of n g (not sign) env) _ _ (clauses-count n f (not sign) env) (clauses-count n g (not sign) env) m
  clauses-count n (connected nand f g) sign env m =
      joined-count n (not sign) (clauses_of n f (not sign) env) (clauses_of n g (not sign) env) _ _ (clauses-count n f (not sign) env) (clauses-count n g (not sign) env) m
  clauses-count n (connected equivalent f g) true env m =
      omega (
        arith,
        doubled-count n (λ u. clauses_of n f u env) (λ u. clauses_of n g u env) (skolem_count f) (skolem_count g) false true
            (λ u. clauses-count n f u env) (λ u. clauses-count n g u env) m,
      )
  clauses-count n (connected equivalent f g) false env m =
      omega (
        arith,
        doubled-count n (λ u. clauses_of n f u env) (λ u. clauses_of n g u env) (skolem_count f) (skolem_count g) true false
            (λ u. clauses-count n f u env) (λ u. clauses-count n g u env) m,
      )
  clauses-count n (connected different f g) true env m =
      omega (
        arith,
        doubled-count n (λ u. clauses_of n f u env) (λ u. clauses_of n g u env) (skolem_count f) (skolem_count g) true false
            (λ u. clauses-count n f u env) (λ u. clauses-count n g u env) m,
      )
  clauses-count n (connected different f g) false env m =
      omega (
        arith,
        doubled-count n (λ u. clauses_of n f u env) (λ u. clauses_of n g u env) (skolem_count f) (skolem_count g) false true
            (λ u. clauses-count n f u env) (λ u. clauses-count n g u env) m,
      )
  clauses-count n (quantified q xs f) sign env m =
      let s : Scope = scope_of n (makes_variables q sign) xs f env m in
      let rest : made_count (clauses_of n f sign s.environment s.made).made ≡ made_count s.made + skolem_count f sign =
      clauses-count n f sign s.environment s.made in
      let scope : made_count s.made ≡ made_count m + (if makes_variables q sign then 0 else length xs) =
      scope-count n (makes_variables q sign) xs f env m in
      omega (arith, rest, scope)

  listed-count : (n : SymbolNumbers) (fs : FormulaTrees) (sign : Bool) (env : Environment) → Adds (listed_clauses n fs sign env) (all_skolem_count fs sign)
  listed-count n no_formulas sign env m = omega arith
  listed-count n (formula_then f fs) sign env m =
      joined-count n true (clauses_of n f sign env) (listed_clauses n fs sign env) _ _ (clauses-count n f sign env) (listed-count n fs sign env) m

  products-count :
      (n : SymbolNumbers) (began : ℕ) (cs : List Literals) (fs : FormulaTrees) (sign : Bool) (env : Environment)
      → Adds (product_clauses n began cs fs sign env) (all_skolem_count fs sign)
  products-count n began cs no_formulas sign env m = omega arith
  products-count n began cs (formula_then f fs) sign env m =
      let w : Worked = clauses_of n f sign env m in
      let v : Worked = product n began cs w.clauses w.made in
      let first : made_count w.made ≡ made_count m + skolem_count f sign = clauses-count n f sign env m in
      let rest : made_count (product_clauses n began v.clauses fs sign env v.made).made ≡ made_count v.made + all_skolem_count fs sign =
      products-count n began v.clauses fs sign env v.made in
      omega (arith, first, rest, product-count n began cs w.clauses w.made)

pub skolem_symbols_are_counted : SkolemSymbolsAreCounted
skolem_symbols_are_counted n f sign env m = clauses-count n f sign env m

formed-count :
    (n : SymbolNumbers) (place : ℕ) (fs : List Annotated) (m : Made)
    → made_count (formed n place fs m).made ≡ made_count m + problem_skolem_count fs
formed-count n place [] m = omega arith
formed-count n place (a ∷ fs) m =
    let first : made_count (annotated_clauses n a m).made ≡ made_count m + skolem_count (closed a) (not (is_conjecture a.role)) =
    clauses-count n (closed a) (not (is_conjecture a.role)) [] (begun m) in
    omega (arith, first, formed-count n (place + 1) fs (annotated_clauses n a m).made)

pub skolem_symbols_of_problem_are_counted : SkolemSymbolsOfProblemAreCounted
skolem_symbols_of_problem_are_counted fs = omega (arith, all)
  where
    all : length (problem_form fs).made.skolem_arities ≡ 0 + problem_skolem_count fs
    all = formed-count (symbol_numbers fs) 0 fs nothing_made
