-- What the declarations of a problem give its words. They hold for the whole problem, wherever they stand in it.
use Rattle.std.specs.Prelude.{ℕ, zero, suc, ◌==◌, Bool, true, false, not, ◌&&◌, ◌||◌, List, [], ◌∷◌, ◌++◌, length, map, Option, None, Some, bytes_eq, if◌then◌else◌}
use Rattle.std.specs.List.{list_any, position_or_len}
use Rattle.tptp_token.specs.Spelling.{is_one_of}
use Rattle.tptp_tree.specs.declared.role.Role.{Role}
use Rattle.tptp_problem.specs.Languages.{PlacedTree}
use Rattle.typed_tree.specs.Sorts.{SortTree, individuals, named_sort, SymbolType, Declared, a_sort, a_symbol, DeclarationTree}
use Rattle.typed_tree.specs.TypedFormula.{TypedTree}
use Rattle.typed_tree.specs.TypedEntries.{TypedEntryTree, BodyTree, declaration_tree, formula_tree}

-- ---- the declarations of a problem, in reading order

abbrev pub Entries : Type 0
Entries = List (PlacedTree TypedEntryTree)

abbrev pub with_declaration : BodyTree → List DeclarationTree → List DeclarationTree
with_declaration (declaration_tree d) ds = d ∷ ds
with_declaration (formula_tree role f) ds = ds

abbrev pub declarations_of : Entries → List DeclarationTree
declarations_of [] = []
declarations_of (e ∷ es) = with_declaration e.tree.body (declarations_of es)

-- what the first declaration of a word gives it
abbrev pub declared_as : List DeclarationTree → List ℕ → Option Declared
declared_as [] word = None
declared_as (d ∷ ds) word = if bytes_eq d.word word then Some d.declared else declared_as ds word

-- ---- sorts

abbrev pub is_sort_word : Option Declared → Bool
is_sort_word None = false
is_sort_word (Some a_sort) = true
is_sort_word (Some (a_symbol t)) = false

-- the sorts that are declared, each once, in the order of their first declarations
abbrev pub with_sort : List (List ℕ) → DeclarationTree → List (List ℕ)
with_sort known d = if is_sort_word (Some d.declared) && not (is_one_of known d.word) then known ++ d.word ∷ [] else known

abbrev pub sorts_from : List (List ℕ) → List DeclarationTree → List (List ℕ)
sorts_from known [] = known
sorts_from known (d ∷ ds) = sorts_from (with_sort known d) ds

abbrev pub declared_sorts : List DeclarationTree → List (List ℕ)
declared_sorts ds = sorts_from [] ds

-- `$i`, or a word that a declaration makes a sort
abbrev pub is_sort : List DeclarationTree → SortTree → Bool
is_sort ds individuals = true
is_sort ds (named_sort word) = is_one_of (declared_sorts ds) word

-- `$i` has the number 0, and the declared sorts have those from 1 on
abbrev pub sort_number : List (List ℕ) → SortTree → ℕ
sort_number sorts individuals = 0
sort_number sorts (named_sort word) = suc (position_or_len (bytes_eq word) sorts)

-- ---- symbols: a name that is used with other numbers of arguments than its declaration has, or as a predicate where that makes it
-- a function, is another symbol, and isn't declared

abbrev pub all_individuals : ℕ → List SortTree
all_individuals zero = []
all_individuals (suc n) = individuals ∷ all_individuals n

-- A symbol that isn't declared has `$i` throughout.
abbrev pub undeclared_function : ℕ → SymbolType
undeclared_function arity = record { arguments = all_individuals arity; result = Some individuals }

abbrev pub undeclared_predicate : ℕ → SymbolType
undeclared_predicate arity = record { arguments = all_individuals arity; result = None }

abbrev pub has_values : Option SortTree → Bool
has_values None = false
has_values (Some s) = true

abbrev pub is_function_type : ℕ → SymbolType → Bool
is_function_type arity t = has_values t.result && length t.arguments == arity

abbrev pub is_predicate_type : ℕ → SymbolType → Bool
is_predicate_type arity t = not (has_values t.result) && length t.arguments == arity

-- the type that a declaration gives where it is one of these, or else another
abbrev pub declared_type : (SymbolType → Bool) → Option Declared → SymbolType → SymbolType
declared_type test None otherwise = otherwise
declared_type test (Some a_sort) otherwise = otherwise
declared_type test (Some (a_symbol t)) otherwise = if test t then t else otherwise

-- the type that a declaration gives, if it declares a symbol
abbrev pub only_symbol : Option Declared → Option SymbolType
only_symbol None = None
only_symbol (Some a_sort) = None
only_symbol (Some (a_symbol t)) = Some t

abbrev pub function_type : List DeclarationTree → List ℕ → ℕ → SymbolType
function_type ds name arity = declared_type (is_function_type arity) (declared_as ds name) (undeclared_function arity)

abbrev pub predicate_type : List DeclarationTree → List ℕ → ℕ → SymbolType
predicate_type ds name arity = declared_type (is_predicate_type arity) (declared_as ds name) (undeclared_predicate arity)

-- the sort of a function's values
abbrev pub sort_or_individuals : Option SortTree → SortTree
sort_or_individuals None = individuals
sort_or_individuals (Some s) = s

abbrev pub result_of : SymbolType → SortTree
result_of t = sort_or_individuals t.result

-- ---- the problem: its sorts, the declarations of its symbols, and its formulas

-- A declaration that repeats an earlier one isn't listed again.
abbrev pub with_first : List DeclarationTree → DeclarationTree → List DeclarationTree
with_first known d =
    if is_sort_word (Some d.declared) || list_any (λ (e : DeclarationTree). bytes_eq e.word d.word) known then known else known ++ d ∷ []

abbrev pub firsts_from : List DeclarationTree → List DeclarationTree → List DeclarationTree
firsts_from known [] = known
firsts_from known (d ∷ ds) = firsts_from (with_first known d) ds

abbrev pub symbol_declarations : List DeclarationTree → List DeclarationTree
symbol_declarations ds = firsts_from [] ds

-- a formula with its name, its role, and where it stands
pub record TypedAnnotatedTree : Type 0 where
  pub name : List ℕ
  pub role : Role
  pub formula : TypedTree
  pub file : List ℕ
  pub place : ℕ

abbrev pub with_formula_of : PlacedTree TypedEntryTree → BodyTree → List TypedAnnotatedTree → List TypedAnnotatedTree
with_formula_of e (declaration_tree d) fs = fs
with_formula_of e (formula_tree role f) fs =
    record { name = e.tree.name; role = role; formula = f; file = e.file; place = e.place } ∷ fs

abbrev pub formulas_among : Entries → List TypedAnnotatedTree
formulas_among [] = []
formulas_among (e ∷ es) = with_formula_of e e.tree.body (formulas_among es)

pub record TypedProblemTree : Type 0 where
  pub sorts : List (List ℕ)
  pub declared : List DeclarationTree
  pub formulas : List TypedAnnotatedTree

-- all declarations of a problem, those of its sorts first
abbrev pub sort_declaration : List ℕ → DeclarationTree
sort_declaration word = record { word = word; declared = a_sort }

abbrev pub all_declarations : TypedProblemTree → List DeclarationTree
all_declarations t = map sort_declaration t.sorts ++ t.declared

abbrev pub typed_problem_of : Entries → TypedProblemTree
typed_problem_of es = record {
  sorts = declared_sorts (declarations_of es);
  declared = symbol_declarations (declarations_of es);
  formulas = formulas_among es;
}
