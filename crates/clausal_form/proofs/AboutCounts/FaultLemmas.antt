-- Problems without a fault.
use Rattle.std.proofs.Common.{◌≡◌, ℕ, ◌+◌, ◌≤◌, Bool, true, false, not, List, [], ◌∷◌, length, refl, ap, arith, ltb-false}
use Rattle.std.specs.Prelude.{nat_lt, Option, None, Some, if◌then◌else◌}
use Rattle.tptp_tree.specs.Shape.{formula_of}
use Rattle.tptp_tree.specs.declared.problem.Annotated.{Annotated}
use Rattle.signature.specs.Occurrences.{problem_symbols}
use Rattle.tptp_tree.specs.Entries.{is_conjecture}
use Rattle.signature.specs.Environment.{closed}
use Rattle.signature.specs.Clausal.{SymbolNumbers, Made, Worked, begun, annotated_clauses}
use Rattle.signature.specs.Form.{skolem_count, problem_skolem_count, symbol_numbers, nothing_made}
use Rattle.signature.proofs.SkolemLemmas.{skolem_symbols_are_counted}
use Rattle.formula_nnf.specs.Expanded.{expanded_count}
use Rattle.clausal_form.specs.Measure.{largest}
use Rattle.clausal_form.specs.Fault.{limit_fault, counted_in, formula_fault, fault_or, first_fault, form_fault}
use Rattle.clausal_form.specs.Progress.{expandable, counted_skolem, numbers_with, counted_numbers}
use Rattle.clausal_form.specs.declared.fault.FormCause.{FormCause}
use Rattle.clausal_form.specs.declared.fault.FormCause.TheVariants.{Expansion, TooHeavy, TotalLimit}
use Rattle.fol_base.specs.declared.limits.TheConstants.{MOST_SYMBOLS, MOST_FORM_SYMBOLS}
use Rattle.clausal_form.specs.declared.fault.TheConstants.{MOST_EXPANDED}

abbrev pub Fault : Type 0
Fault = Option (FormCause × List ℕ)

abbrev pub no_fault : Fault
no_fault = None

pub rest-none : (cause : Option FormCause) (name : List ℕ) (rest : Fault) → fault_or cause name rest ≡ no_fault → rest ≡ no_fault
rest-none None name rest h = h
rest-none (Some c) name rest h = cc

expandable-all : (n : SymbolNumbers) (fs : List Annotated) (counted : ℕ) (m : Made) → first_fault n fs counted m ≡ no_fault → expandable fs ≡ fs
expandable-all n [] counted m h = refl
expandable-all n (a ∷ fs) counted m h =
    by (nat_lt MOST_EXPANDED (expanded_count (formula_of a.formula))) h (λ k. expandable-all n fs (counted + counted_in (annotated_clauses n a m).clauses) (annotated_clauses n a m).made k)
  where
    w : Worked
    w = annotated_clauses n a m

    limits : Option FormCause
    limits = limit_fault (largest w.clauses) (counted + counted_in w.clauses + length w.made.skolem_arities)

    rest : Fault
    rest = first_fault n fs (counted + counted_in w.clauses) w.made

    by :
        (t : Bool) → fault_or (if t then Some Expansion else limits) a.name rest ≡ no_fault → (rest ≡ no_fault → expandable fs ≡ fs)
        → (if t then [] else a ∷ expandable fs) ≡ a ∷ fs
    by true k f = cc
    by false k f = ap (λ gs. a ∷ gs) (f (rest-none limits a.name rest k))

-- ---- the Skolem symbols are within the limit too

limits-none :
    (t u : Bool) → (if t then Some TooHeavy else if u then Some TotalLimit else None) ≡ None → (t ≡ false) × (u ≡ false)
limits-none true u k = absurd (cc)
limits-none false true k = absurd (cc)
limits-none false false k = (refl, refl)

formula-within :
    (n : SymbolNumbers) (a : Annotated) (counted : ℕ) (m : Made) → formula_fault n a counted m ≡ None
    → limit_fault (largest (annotated_clauses n a m).clauses)
    (counted + counted_in (annotated_clauses n a m).clauses + length (annotated_clauses n a m).made.skolem_arities)
    ≡ None
formula-within n a counted m h = by (nat_lt MOST_EXPANDED (expanded_count (formula_of a.formula))) h
  where
    limits : Option FormCause
    limits =
        limit_fault (largest (annotated_clauses n a m).clauses)
        (counted + counted_in (annotated_clauses n a m).clauses + length (annotated_clauses n a m).made.skolem_arities)

    by : (t : Bool) → (if t then Some Expansion else limits) ≡ None → limits ≡ None
    by true k = absurd (cc)
    by false k = k

-- the largest clause, and all that there is behind the formula
pub formula-limits :
    (n : SymbolNumbers) (a : Annotated) (counted : ℕ) (m : Made) → formula_fault n a counted m ≡ None
    → (largest (annotated_clauses n a m).clauses ≤ MOST_SYMBOLS)
    × (counted + counted_in (annotated_clauses n a m).clauses + length (annotated_clauses n a m).made.skolem_arities ≤ MOST_FORM_SYMBOLS)
formula-limits n a counted m h = (ltb-false MOST_SYMBOLS size none.0, ltb-false MOST_FORM_SYMBOLS total none.1)
  where
    size : ℕ
    size = largest (annotated_clauses n a m).clauses

    total : ℕ
    total = counted + counted_in (annotated_clauses n a m).clauses + length (annotated_clauses n a m).made.skolem_arities

    none : (nat_lt MOST_SYMBOLS size ≡ false) × (nat_lt MOST_FORM_SYMBOLS total ≡ false)
    none = limits-none (nat_lt MOST_SYMBOLS size) (nat_lt MOST_FORM_SYMBOLS total) (formula-within n a counted m h)

pub first-none : (cause : Option FormCause) (name : List ℕ) (rest : Fault) → fault_or cause name rest ≡ no_fault → cause ≡ None
first-none None name rest h = refl
first-none (Some c) name rest h = absurd (cc)

skolem-within :
    (n : SymbolNumbers) (fs : List Annotated) (counted : ℕ) (m : Made) → length m.skolem_arities ≤ MOST_FORM_SYMBOLS
    → first_fault n fs counted m ≡ no_fault → length m.skolem_arities + problem_skolem_count fs ≤ MOST_FORM_SYMBOLS
skolem-within n [] counted m small h = omega (arith, small)
skolem-within n (a ∷ fs) counted m small h =
    let w : Worked = annotated_clauses n a m in
    let here = (formula-limits n a counted m (first-none (formula_fault n a counted m) a.name _ h)).1 in
    let more : length w.made.skolem_arities ≡ length m.skolem_arities + skolem_count (closed a) (not (is_conjecture a.role)) =
    skolem_symbols_are_counted n (closed a) (not (is_conjecture a.role)) [] (begun m) in
    let rest = skolem-within n fs (counted + counted_in w.clauses) w.made (omega (arith, here)) (rest-none (formula_fault n a counted m) a.name _ h) in
    omega (arith, more, rest)

pub numbers_without_fault : (fs : List Annotated) → form_fault fs ≡ None → counted_numbers fs ≡ symbol_numbers fs
numbers_without_fault fs h =
    let few = skolem-within (symbol_numbers fs) fs 0 nothing_made (omega arith) h in
    let all : problem_skolem_count (expandable fs) ≡ problem_skolem_count fs =
    ap problem_skolem_count (expandable-all (symbol_numbers fs) fs 0 nothing_made h) in
    let count : counted_skolem fs ≡ problem_skolem_count fs = omega (arith, few, all) in
    ap (numbers_with (problem_symbols fs)) count
