-- Laws of the clauses of a problem's clausal form.
use Rattle.std.specs.Prelude.{◌≡◌, ◌≤◌, ℕ, ◌+◌, List, [], length, sum_by, None, option_map, unwrap_or, slice_get}
use Rattle.std.specs.List.{AllByRecursion}
use Rattle.tptp_tree.specs.declared.problem.Annotated.{Annotated}
use Rattle.fol_base.specs.Clause.{TreeClause, clause_size}
use Rattle.fol_base.specs.Canonical.{IsCanonical}
use Rattle.fol_base.specs.WellFormed.{SymbolUse, WellFormed}
use Rattle.signature.specs.declared.symbol.Symbol.{Symbol}
use Rattle.signature.specs.Form.{clausal_form}
use Rattle.clausal_form.specs.Fault.{form_fault}
use Rattle.clausal_form.specs.FormFunctions.{is_predicate_in}
use Rattle.fol_base.specs.declared.limits.TheConstants.{MOST_SYMBOLS, MOST_FORM_SYMBOLS}

-- each is canonical and has no names
abbrev pub FormsAreCanonical : Type 0
FormsAreCanonical =
    (fs : List Annotated) → AllByRecursion (λ (c : TreeClause). IsCanonical c × (c.names ≡ [])) (clausal_form fs).clauses

-- where no formula passes a limit, none is too large
abbrev pub FormsHaveSmallClauses : Type 0
FormsHaveSmallClauses =
    (fs : List Annotated) → form_fault fs ≡ None
    → AllByRecursion (λ (c : TreeClause). clause_size c ≤ MOST_SYMBOLS) (clausal_form fs).clauses

-- and all together aren't too large either
abbrev pub FormsAreSmall : Type 0
FormsAreSmall =
    (fs : List Annotated) → form_fault fs ≡ None
    → length (clausal_form fs).clauses + sum_by clause_size (clausal_form fs).clauses ≤ MOST_FORM_SYMBOLS

-- ---- symbols

-- the number of arguments of the symbol with a number
abbrev pub arity_in : List Symbol → ℕ → ℕ
arity_in symbols n = unwrap_or (option_map (λ (s : Symbol). s.arity) (slice_get symbols n)) 0

-- the use of symbols that a signature tells
abbrev pub use_of : List Symbol → SymbolUse
use_of symbols = record { is_predicate = is_predicate_in symbols; arity = arity_in symbols }

-- the clauses are well-formed, each symbol used as the form's signature tells
abbrev pub FormsAreWellFormed : Type 0
FormsAreWellFormed = (fs : List Annotated) → (w : WellFormed (clausal_form fs).clauses) × (w.usage ≡ use_of (clausal_form fs).symbols)
