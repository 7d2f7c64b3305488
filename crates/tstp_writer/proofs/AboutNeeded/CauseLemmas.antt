-- No token of a printed formula is at fault, within its levels and with its free variables.
use Rattle.std.proofs.Common.{◌≡◌, ℕ, suc, ◌+◌, ◌<◌, ◌≤◌, Bool, true, false, not, ◌||◌, List, [], ◌∷◌, ◌++◌, Option, None, Some, refl, ap, ◌∙◌, arith}
use Rattle.std.specs.Prelude.{max, bytes_eq, if◌then◌else◌}
use Rattle.std.specs.List.{list_any, AllByRecursion}
use Rattle.std.proofs.lemmas.Bool.{lt-ltb}
use Rattle.std.proofs.lemmas.List.Folds.{list_any-append}
use Rattle.std.proofs.Math.Nat.{le-max_left, le-max_right}
use Rattle.tptp_tree.specs.Term.{TermTree, variable, application, TermTrees, no_terms, term_then}
use Rattle.tptp_tree.specs.Formula.{FormulaTree, truth, falsity, predicate, equation, negation, conjunction, disjunction, connected, quantified, FormulaTrees, no_formulas, formula_then}
use Rattle.tptp_tree.specs.Printing.{is_joined, is_bare}
use Rattle.tptp_tree.specs.Causes.{Refusal, free_variable, too_deep, Scope, every_variable, bound_ones, scope_with, Surroundings, deeper, binding, begun, variable_cause, term_causes, arguments_causes, more_arguments_causes, more_variables_causes, unit_causes, units_causes, phrase_causes}
use Rattle.tptp_tree.proofs.CanonicalLemmas.{WellFormula, WellFormulas, term_phrase, term_phrases, phrase_of, units_of, unit_of, negated_unit}
use Rattle.signature.specs.Environment.{term_names, terms_names, without_names, free_names, all_free_names}
use Rattle.tptp_tree.specs.Levels.{term_levels, arguments_levels, terms_levels, with_parentheses, formula_levels, operands_levels}
use Rattle.tstp_writer.proofs.AboutPrinted.NoteLemmas.{AllNone}

-- ---- variables that may stand

abbrev pub AllAllowed : Scope → List (List ℕ) → Type 0
AllAllowed scope xs = AllByRecursion (λ x. variable_cause scope x ≡ None) xs

allowed-front : (scope : Scope) (xs ys : List (List ℕ)) → AllAllowed scope (xs ++ ys) → AllAllowed scope xs
allowed-front scope [] ys a = tt
allowed-front scope (x ∷ xs) ys a = (a.0, allowed-front scope xs ys a.1)

allowed-back : (scope : Scope) (xs ys : List (List ℕ)) → AllAllowed scope (xs ++ ys) → AllAllowed scope ys
allowed-back scope [] ys a = a
allowed-back scope (x ∷ xs) ys a = allowed-back scope xs ys a.1

pub every-allowed : (xs : List (List ℕ)) → AllAllowed every_variable xs
every-allowed [] = tt
every-allowed (x ∷ xs) = (refl, every-allowed xs)

-- what a quantifier binds may stand below it, and what may stand around it
bound-allowed : (scope : Scope) (xs ns : List (List ℕ)) → AllAllowed scope (without_names xs ns) → AllAllowed (scope_with scope xs) ns
bound-allowed every_variable xs ns a = every-allowed ns
bound-allowed (bound_ones ys) xs [] a = tt
bound-allowed (bound_ones ys) xs (n ∷ ns) a = by (bound-allowed (bound_ones ys) xs ns) (list_any (bytes_eq n) xs) refl a
  where
    found : (t u : Bool) → list_any (bytes_eq n) xs ≡ t → list_any (bytes_eq n) ys ≡ u → list_any (bytes_eq n) (xs ++ ys) ≡ (t || u)
    found t u e f = list_any-append (bytes_eq n) xs ys ∙ ap (λ v. v || list_any (bytes_eq n) ys) e ∙ ap (λ v. t || v) f

    cause : Bool → Option Refusal
    cause t = if t then None else Some free_variable

    outer : (u : Bool) → list_any (bytes_eq n) ys ≡ u → cause u ≡ None → list_any (bytes_eq n) ys ≡ true
    outer true e h = e
    outer false e h = absurd (let none : Some free_variable ≡ None = h in cc)

    by :
        (AllAllowed (bound_ones ys) (without_names xs ns) → AllAllowed (bound_ones (xs ++ ys)) ns)
        → (t : Bool) → list_any (bytes_eq n) xs ≡ t
        → AllAllowed (bound_ones ys) (if not t then n ∷ without_names xs ns else without_names xs ns)
        → AllAllowed (bound_ones (xs ++ ys)) (n ∷ ns)
    by more true e b = (ap cause (found true (list_any (bytes_eq n) ys) e refl), more b)
    by more false e b = (ap cause (found false true e (outer (list_any (bytes_eq n) ys) refl b.0)), more b.1)

-- ---- levels

begun-none : (s : Surroundings) → s.level < s.limit → begun s ≡ None
begun-none s h = ap (λ t. if t then None else Some too_deep) (lt-ltb s.level s.limit h)

abbrev Fits : Surroundings → ℕ → Type 0
Fits s levels = s.level + levels ≤ s.limit

fits-begun : (s : Surroundings) (n : ℕ) → Fits s (suc n) → begun s ≡ None
fits-begun s n h = begun-none s (omega (arith, h))

fits-deeper : (s : Surroundings) (n : ℕ) → Fits s (suc n) → Fits (deeper s) n
fits-deeper s n h = let k : suc s.level + n ≤ s.limit = omega (arith, h) in k

fits-left : (s : Surroundings) (n m : ℕ) → Fits s (max n m) → Fits s n
fits-left s n m h = omega (arith, h, le-max_left n m)

fits-right : (s : Surroundings) (n m : ℕ) → Fits s (max n m) → Fits s m
fits-right s n m h = omega (arith, h, le-max_right n m)

-- ---- terms

mutual
  term-fine :
      (s : Surroundings) (t : TermTree) (rest : List (Option Refusal))
      → Fits s (term_levels t) → AllAllowed s.scope (term_names t) → AllNone rest → AllNone (term_causes s (term_phrase t) rest)
  term-fine s (variable x) rest h a r = (a.0, r)
  term-fine s (application f ts) rest h a r = (refl, arguments-fine s ts rest h a r)

  arguments-fine :
      (s : Surroundings) (ts : TermTrees) (rest : List (Option Refusal))
      → Fits s (arguments_levels ts) → AllAllowed s.scope (terms_names ts) → AllNone rest
      → AllNone (arguments_causes s (term_phrases ts) rest)
  arguments-fine s no_terms rest h a r = r
  arguments-fine s (term_then t ts) rest h a r =
      let inside : Fits (deeper s) (max (term_levels t) (terms_levels ts)) = fits-deeper s (max (term_levels t) (terms_levels ts)) h in (
        fits-begun s (max (term_levels t) (terms_levels ts)) h,
        term-fine (deeper s) t (more_arguments_causes (deeper s) (term_phrases ts) rest)
            (fits-left (deeper s) (term_levels t) (terms_levels ts) inside) (allowed-front s.scope (term_names t) (terms_names ts) a)
            (more-fine (deeper s) ts rest (fits-right (deeper s) (term_levels t) (terms_levels ts) inside)
            (allowed-back s.scope (term_names t) (terms_names ts) a) r),
      )

  more-fine :
      (s : Surroundings) (ts : TermTrees) (rest : List (Option Refusal))
      → Fits s (terms_levels ts) → AllAllowed s.scope (terms_names ts) → AllNone rest
      → AllNone (more_arguments_causes s (term_phrases ts) rest)
  more-fine s no_terms rest h a r = (refl, r)
  more-fine s (term_then t ts) rest h a r = (
    refl,
    term-fine s t (more_arguments_causes s (term_phrases ts) rest) (fits-left s (term_levels t) (terms_levels ts) h)
        (allowed-front s.scope (term_names t) (terms_names ts) a)
        (more-fine s ts rest (fits-right s (term_levels t) (terms_levels ts) h) (allowed-back s.scope (term_names t) (terms_names ts) a) r),
  )

-- ---- formulas

abbrev FormulaFine : FormulaTree → Type 0
FormulaFine f =
    (s : Surroundings) (rest : List (Option Refusal))
    → Fits s (formula_levels f) → AllAllowed s.scope (free_names f) → AllNone rest → AllNone (phrase_causes s (phrase_of f) rest)

-- in parentheses
inside :
    (f : FormulaTree) (s : Surroundings) (rest : List (Option Refusal))
    → FormulaFine f → Fits s (suc (formula_levels f)) → AllAllowed s.scope (free_names f) → AllNone rest
    → AllNone (begun s ∷ phrase_causes (deeper s) (phrase_of f) (None ∷ rest))
inside f s rest ih h a r =
    (fits-begun s (formula_levels f) h, ih (deeper s) (None ∷ rest) (fits-deeper s (formula_levels f) h) a (refl, r))

operand-fine :
    (f : FormulaTree) → WellFormula f → FormulaFine f → (s : Surroundings) (rest : List (Option Refusal))
    → Fits s (with_parentheses (is_joined f) (formula_levels f)) → AllAllowed s.scope (free_names f) → AllNone rest
    → AllNone (unit_causes s (unit_of (phrase_of f)) rest)
operand-fine truth w ih s rest h a r = ih s rest h a r
operand-fine falsity w ih s rest h a r = ih s rest h a r
operand-fine (predicate p ts) w ih s rest h a r = ih s rest h a r
operand-fine (equation positive t u) w ih s rest h a r = ih s rest h a r
operand-fine (negation f) w ih s rest h a r = ih s rest h a r
operand-fine (conjunction no_formulas) w ih s rest h a r = absurd w.0
operand-fine (conjunction (formula_then f no_formulas)) w ih s rest h a r = absurd w.0
operand-fine (conjunction (formula_then f (formula_then g fs))) w ih s rest h a r =
    inside (conjunction (formula_then f (formula_then g fs))) s rest ih h a r
operand-fine (disjunction no_formulas) w ih s rest h a r = absurd w.0
operand-fine (disjunction (formula_then f no_formulas)) w ih s rest h a r = absurd w.0
operand-fine (disjunction (formula_then f (formula_then g fs))) w ih s rest h a r =
    inside (disjunction (formula_then f (formula_then g fs))) s rest ih h a r
operand-fine (connected c f g) w ih s rest h a r = inside (connected c f g) s rest ih h a r
operand-fine (quantified q xs f) w ih s rest h a r = ih s rest h a r

negated-fine :
    (f : FormulaTree) → FormulaFine f → (s : Surroundings) (rest : List (Option Refusal))
    → Fits s (with_parentheses (not (is_bare f)) (formula_levels f)) → AllAllowed s.scope (free_names f) → AllNone rest
    → AllNone (unit_causes s (negated_unit (is_bare f) (phrase_of f)) rest)
negated-fine truth ih s rest h a r = ih s rest h a r
negated-fine falsity ih s rest h a r = ih s rest h a r
negated-fine (predicate p ts) ih s rest h a r = ih s rest h a r
negated-fine (equation positive t u) ih s rest h a r = inside (equation positive t u) s rest ih h a r
negated-fine (negation f) ih s rest h a r = ih s rest h a r
negated-fine (conjunction fs) ih s rest h a r = inside (conjunction fs) s rest ih h a r
negated-fine (disjunction fs) ih s rest h a r = inside (disjunction fs) s rest ih h a r
negated-fine (connected c f g) ih s rest h a r = inside (connected c f g) s rest ih h a r
negated-fine (quantified q xs f) ih s rest h a r = inside (quantified q xs f) s rest ih h a r

variables-fine : (xs : List (List ℕ)) (rest : List (Option Refusal)) → AllNone rest → AllNone (more_variables_causes xs rest)
variables-fine [] rest r = r
variables-fine (x ∷ xs) rest r = (refl, (refl, variables-fine xs rest r))

abbrev unit_levels : FormulaTree → ℕ
unit_levels f = with_parentheses (is_joined f) (formula_levels f)

mutual
  pub formula-fine : (f : FormulaTree) → WellFormula f → FormulaFine f
  formula-fine truth w s rest h a r = (refl, r)
  formula-fine falsity w s rest h a r = (refl, r)
  formula-fine (predicate p ts) w s rest h a r = (refl, arguments-fine s ts rest h a r)
  formula-fine (equation positive t u) w s rest h a r =
      term-fine s t (None ∷ term_causes s (term_phrase u) rest) (fits-left s (term_levels t) (term_levels u) h)
      (allowed-front s.scope (term_names t) (term_names u) a)
      (refl, term-fine s u rest (fits-right s (term_levels t) (term_levels u) h) (allowed-back s.scope (term_names t) (term_names u) a) r)
  formula-fine (negation f) w s rest h a r =
      let n : ℕ = with_parentheses (not (is_bare f)) (formula_levels f) in
      (fits-begun s n h, negated-fine f (formula-fine f w) (deeper s) rest (fits-deeper s n h) a r)
  formula-fine (conjunction no_formulas) w s rest h a r = absurd w.0
  formula-fine (conjunction (formula_then f no_formulas)) w s rest h a r = absurd w.0
  formula-fine (conjunction (formula_then f (formula_then g fs))) w s rest h a r =
      operand-fine f w.1.0 (formula-fine f w.1.0) s (units_causes s (units_of (formula_then g fs)) rest)
      (fits-left s (unit_levels f) (operands_levels (formula_then g fs)) h)
      (allowed-front s.scope (free_names f) (all_free_names (formula_then g fs)) a)
      (operands-fine (formula_then g fs) w.1.1 s rest (fits-right s (unit_levels f) (operands_levels (formula_then g fs)) h)
      (allowed-back s.scope (free_names f) (all_free_names (formula_then g fs)) a) r)
  formula-fine (disjunction no_formulas) w s rest h a r = absurd w.0
  formula-fine (disjunction (formula_then f no_formulas)) w s rest h a r = absurd w.0
  formula-fine (disjunction (formula_then f (formula_then g fs))) w s rest h a r =
      operand-fine f w.1.0 (formula-fine f w.1.0) s (units_causes s (units_of (formula_then g fs)) rest)
      (fits-left s (unit_levels f) (operands_levels (formula_then g fs)) h)
      (allowed-front s.scope (free_names f) (all_free_names (formula_then g fs)) a)
      (operands-fine (formula_then g fs) w.1.1 s rest (fits-right s (unit_levels f) (operands_levels (formula_then g fs)) h)
      (allowed-back s.scope (free_names f) (all_free_names (formula_then g fs)) a) r)
  formula-fine (connected c f g) w s rest h a r =
      operand-fine f w.0 (formula-fine f w.0) s (None ∷ unit_causes s (unit_of (phrase_of g)) rest)
      (fits-left s (unit_levels f) (unit_levels g) h) (allowed-front s.scope (free_names f) (free_names g) a) (
        refl,
        operand-fine g w.1 (formula-fine g w.1) s rest (fits-right s (unit_levels f) (unit_levels g) h)
            (allowed-back s.scope (free_names f) (free_names g) a) r,
      )
  formula-fine (quantified q [] f) w s rest h a r = absurd w.0
  formula-fine (quantified q (x ∷ xs) f) w s rest h a r =
      let below : Fits (deeper s) (max 1 (unit_levels f)) = fits-deeper s (max 1 (unit_levels f)) h in
      let under : Surroundings = binding (x ∷ xs) (deeper s) in
      let body : AllNone (unit_causes under (unit_of (phrase_of f)) rest) =
      operand-fine f w.2 (formula-fine f w.2) under rest (fits-right (deeper s) 1 (unit_levels f) below)
      (bound-allowed s.scope (x ∷ xs) (free_names f) a) r in (
        fits-begun s (max 1 (unit_levels f)) h,
        (
          fits-begun (deeper s) 0 (fits-left (deeper s) 1 (unit_levels f) below),
          (refl, variables-fine xs (None ∷ None ∷ unit_causes under (unit_of (phrase_of f)) rest) (refl, (refl, body))),
        ),
      )

  operands-fine :
      (fs : FormulaTrees) → WellFormulas fs → (s : Surroundings) (rest : List (Option Refusal))
      → Fits s (operands_levels fs) → AllAllowed s.scope (all_free_names fs) → AllNone rest → AllNone (units_causes s (units_of fs) rest)
  operands-fine no_formulas w s rest h a r = r
  operands-fine (formula_then f fs) w s rest h a r = (
    refl,
    operand-fine f w.0 (formula-fine f w.0) s (units_causes s (units_of fs) rest) (fits-left s (unit_levels f) (operands_levels fs) h)
        (allowed-front s.scope (free_names f) (all_free_names fs) a)
        (operands-fine fs w.1 s rest (fits-right s (unit_levels f) (operands_levels fs) h)
        (allowed-back s.scope (free_names f) (all_free_names fs) a) r),
  )
