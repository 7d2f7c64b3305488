-- Clauses whose function symbols are those of a list.
use Rattle.std.specs.Prelude.{ℕ, Bool, ◌||◌, ◌==◌, IsTrue}
use Rattle.fol_base.specs.Tree.{true_symbol}
use Rattle.fol_base.specs.Clause.{TreeClause}
use Rattle.fol_base.specs.Symbols.{FunctionSymbols}
use Rattle.fol_base.specs.Ground.{has_symbol}
use Rattle.kernel_steps.specs.Symbols.{clause_symbols_pass}

-- `$true`, a predicate, or a function symbol of the list with its number of arguments
abbrev pub is_allowed : {is_predicate : ℕ → Bool} → FunctionSymbols is_predicate → ℕ → ℕ → Bool
is_allowed {is_predicate} functions f arity = (f == true_symbol || is_predicate f) || has_symbol functions.symbols f arity

-- the list holds each function symbol of the clause
abbrev pub HasSymbolsOf : {is_predicate : ℕ → Bool} → FunctionSymbols is_predicate → TreeClause → Type 0
HasSymbolsOf functions c = IsTrue (clause_symbols_pass (is_allowed functions) c)
