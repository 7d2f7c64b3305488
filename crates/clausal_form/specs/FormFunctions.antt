-- The function symbols of a signature by their numbers, and when a problem is refuted by ground instances of its clausal form.
use Rattle.std.specs.Prelude.{◌≡◌, ℕ, suc, Bool, false, List, [], ◌∷◌, option_map, unwrap_or, slice_get, if◌then◌else◌}
use Rattle.fol_base.specs.Symbols.{FunctionSymbol, FunctionSymbols}
use Rattle.tptp_tree.specs.declared.problem.Annotated.{Annotated}
use Rattle.signature.specs.declared.symbol.Symbol.{Symbol}
use Rattle.signature.specs.Symbol.{is_predicate_kind}
use Rattle.signature.specs.Form.{clausal_form}
use Rattle.kernel_steps.specs.Soundness.{HerbrandRefuted}

-- the function symbols of a list whose first symbol has that number
abbrev pub functions_from : ℕ → List Symbol → List FunctionSymbol
functions_from n [] = []
functions_from n (s ∷ ss) =
    if is_predicate_kind s.kind then functions_from (suc n) ss
    else record { number = n; arity = s.arity } ∷ functions_from (suc n) ss

-- the function symbols of a signature, each with its number and its number of arguments
abbrev pub functions_of : List Symbol → List FunctionSymbol
functions_of symbols = functions_from 0 symbols

-- whether the symbol with a number is a predicate
abbrev pub is_predicate_in : List Symbol → ℕ → Bool
is_predicate_in symbols n = unwrap_or (option_map (λ (s : Symbol). is_predicate_kind s.kind) (slice_get symbols n)) false

-- the function symbols of a signature as symbols of ground terms: there is a constant among them, the spare one if the problem has none
pub record OwnFunctions (symbols : List Symbol) : Type 0 where
  pub functions : FunctionSymbols (is_predicate_in symbols)
  pub are_all : functions.symbols ≡ functions_of symbols

-- Finitely many ground instances of the problem's clausal form, over its own function symbols, are true in no interpretation.
pub record IsHerbrandRefuted (problem : List Annotated) : Type 0 where
  pub own : OwnFunctions (clausal_form problem).symbols
  pub refuted : HerbrandRefuted own.functions (clausal_form problem).clauses
