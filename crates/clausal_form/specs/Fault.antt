-- The first formula of a problem that passes a limit, and the limit.
use Rattle.std.specs.Prelude.{◌≡◌, ⊤, ℕ, ◌+◌, nat_lt, List, [], ◌∷◌, length, Option, None, Some, if◌then◌else◌}
use Rattle.tptp_tree.specs.Shape.{formula_of}
use Rattle.tptp_tree.specs.declared.problem.Annotated.{Annotated}
use Rattle.signature.specs.Clausal.{SymbolNumbers, Made, Worked, Literals, annotated_clauses}
use Rattle.signature.specs.Form.{symbol_numbers, nothing_made}
use Rattle.formula_nnf.specs.Expanded.{expanded_count}
use Rattle.clausal_form.specs.Measure.{symbols_in, largest}
use Rattle.clausal_form.specs.declared.fault.FormCause.{FormCause}
use Rattle.clausal_form.specs.declared.fault.FormCause.TheVariants.{Expansion, TooHeavy, TotalLimit}
use Rattle.clausal_form.specs.declared.fault.FormFault.{FormFault}
use Rattle.clausal_form.specs.declared.fault.FormFault.TheVariants.{NoMemory, Refused}
use Rattle.fol_base.specs.declared.limits.TheConstants.{MOST_SYMBOLS, MOST_FORM_SYMBOLS}
use Rattle.clausal_form.specs.declared.fault.TheConstants.{MOST_EXPANDED}

-- The limits on a formula's clauses: on the symbols of the largest, and on the symbols, clauses and Skolem symbols that there are by then.
abbrev pub limit_fault : ℕ → ℕ → Option FormCause
limit_fault size total =
    if nat_lt MOST_SYMBOLS size then Some TooHeavy else if nat_lt MOST_FORM_SYMBOLS total then Some TotalLimit else None

-- the clauses and their symbols
abbrev pub counted_in : List Literals → ℕ
counted_in cs = length cs + symbols_in cs

-- the fault of a formula, after `counted` clauses and symbols of the formulas before it
abbrev pub formula_fault : SymbolNumbers → Annotated → ℕ → Made → Option FormCause
formula_fault n a counted m =
    let w : Worked = annotated_clauses n a m in
    if nat_lt MOST_EXPANDED (expanded_count (formula_of a.formula)) then Some Expansion
    else limit_fault (largest w.clauses) (counted + counted_in w.clauses + length w.made.skolem_arities)

-- a formula's fault with its name, or else the fault of the formulas after it
abbrev pub fault_or : Option FormCause → List ℕ → Option (FormCause × List ℕ) → Option (FormCause × List ℕ)
fault_or None name rest = rest
fault_or (Some cause) name rest = Some (cause, name)

abbrev pub first_fault : SymbolNumbers → List Annotated → ℕ → Made → Option (FormCause × List ℕ)
first_fault n [] counted m = None
first_fault n (a ∷ fs) counted m =
    let w : Worked = annotated_clauses n a m in
    fault_or (formula_fault n a counted m) a.name (first_fault n fs (counted + counted_in w.clauses) w.made)

-- The first fault of a problem's clausal form. It doesn't depend on the numbers of the symbols.
abbrev pub form_fault : List Annotated → Option (FormCause × List ℕ)
form_fault fs = first_fault (symbol_numbers fs) fs 0 nothing_made

-- out of memory, or the first fault
abbrev pub IsFormFault : List Annotated → FormFault → Type 0
IsFormFault fs NoMemory = ⊤
IsFormFault fs (Refused cause name) = form_fault fs ≡ Some (cause, name)
