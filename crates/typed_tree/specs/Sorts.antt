-- Sorts, the types of symbols, and what a declaration says (monomorphic typed first-order form, Sutcliffe 2017, this product's
-- profile).
use Rattle.std.specs.Prelude.{ℕ, Bool, true, false, ◌&&◌, List, Option, None, Some, bytes_eq}
use lib.Pointwise.{pointwise}

-- `$i`, or a sort that a declaration names
pub data SortTree : Type 0 where
  individuals : SortTree
  named_sort : List ℕ → SortTree

abbrev pub same_sort : SortTree → SortTree → Bool
same_sort individuals individuals = true
same_sort individuals (named_sort t) = false
same_sort (named_sort s) individuals = false
same_sort (named_sort s) (named_sort t) = bytes_eq s t

-- a symbol's type: the sorts of its arguments, and the sort of its values, or none for a predicate
pub record SymbolType : Type 0 where
  pub arguments : List SortTree
  pub result : Option SortTree

abbrev pub same_result : Option SortTree → Option SortTree → Bool
same_result None None = true
same_result None (Some t) = false
same_result (Some s) None = false
same_result (Some s) (Some t) = same_sort s t

abbrev pub same_type : SymbolType → SymbolType → Bool
same_type s t = pointwise same_sort s.arguments t.arguments && same_result s.result t.result

-- what a declaration gives its word: it is a sort, or a symbol of that type
pub data Declared : Type 0 where
  a_sort : Declared
  a_symbol : SymbolType → Declared

abbrev pub same_declared : Declared → Declared → Bool
same_declared a_sort a_sort = true
same_declared a_sort (a_symbol t) = false
same_declared (a_symbol s) a_sort = false
same_declared (a_symbol s) (a_symbol t) = same_type s t

-- the word, and what it is
pub record DeclarationTree : Type 0 where
  pub word : List ℕ
  pub declared : Declared
