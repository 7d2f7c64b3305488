-- Function symbols, and lists of them over which terms are built.
use Rattle.std.specs.Prelude.{ℕ, Bool, not, ◌&&◌, ◌==◌, List, IsTrue}
use Rattle.std.specs.List.{list_any, list_all}
use Rattle.fol_base.specs.Tree.{true_symbol}

-- a function symbol: its number, and how many arguments it takes
pub record FunctionSymbol : Type 0 where
  pub number : ℕ
  pub arity : ℕ

-- neither a predicate nor `$true` is among them
abbrev pub are_function_symbols : (ℕ → Bool) → List FunctionSymbol → Bool
are_function_symbols is_predicate symbols = list_all (λ s. not (s.number == true_symbol) && not (is_predicate s.number)) symbols

-- no symbol is listed with two numbers of arguments
abbrev pub have_one_arity : List FunctionSymbol → Bool
have_one_arity symbols =
    list_all (λ (s : FunctionSymbol). not (list_any (λ (t : FunctionSymbol). (s.number == t.number) && not (s.arity == t.arity)) symbols)) symbols

-- one is a constant, a symbol without arguments: only then is any tree ground over the list
abbrev pub has_constant : List FunctionSymbol → Bool
has_constant symbols = list_any (λ (s : FunctionSymbol). s.arity == 0) symbols

-- A list of function symbols alone, each with one number of arguments, and with a constant. What is said of ground instances is
-- said over such a list: with a predicate p among the symbols, `X0 = a` would have the instance `p(a) = a`, and without a constant
-- no clause would have any.
pub record FunctionSymbols (is_predicate : ℕ → Bool) : Type 0 where
  pub symbols : List FunctionSymbol
  pub functions_alone : IsTrue (are_function_symbols is_predicate symbols)
  pub one_arity : IsTrue (have_one_arity symbols)
  pub constant : IsTrue (has_constant symbols)
