-- The untyped problem that a typed one is translated to (sorts as predicates): each sort has a predicate that holds of its values; there
-- is a value of each sort; each function gives a value of its result's sort for arguments of the sorts it wants; and each quantifier
-- ranges over the values of its variable's sort.
use Rattle.std.specs.Prelude.{ℕ, zero, suc, Bool, false, not, List, [], ◌∷◌, ◌++◌, length, map, flat_map, fold, codes, if◌then◌else◌}
use Rattle.std.specs.Fmt.{decimal}
use Rattle.std.specs.List.{filter}
use Rattle.tptp_tree.specs.declared.role.Role.TheVariants.{Axiom}
use Rattle.tptp_tree.specs.Term.{TermTree, variable, application, TermTrees, no_terms, term_then}
use Rattle.tptp_tree.specs.Formula.{implies, Quantifier, for_all, exists_some, FormulaTree, truth as untyped_truth, falsity as untyped_falsity, predicate as untyped_predicate, equation as untyped_equation, negation as untyped_negation, conjunction as untyped_conjunction, disjunction as untyped_disjunction, connected as untyped_connected, quantified as untyped_quantified, FormulaTrees, no_formulas as no_untyped, formula_then as untyped_then}
use Rattle.tptp_problem.specs.Formulas.{Placed}
use Rattle.signature.specs.declared.symbol.Symbol.{Symbol}
use Rattle.signature.specs.Symbol.{is_predicate_kind, predicate_symbol, function_symbol, true_symbol, with_symbol}
use Rattle.signature.specs.Occurrences.{terms_count, term_symbols, terms_symbols}
use Rattle.signature.specs.Prefix.{fresh_prefix_of}
use Rattle.typed_tree.specs.Sorts.{SortTree, SymbolType, Declared, a_sort, a_symbol, DeclarationTree}
use Rattle.typed_tree.specs.TypedFormula.{TypedVariable, TypedTree, truth, falsity, predicate, equation, negation, conjunction, disjunction, connected, quantified, TypedTrees, no_formulas, formula_then}
use Rattle.typed_problem.specs.Declarations.{sort_number, has_values, function_type, result_of, TypedAnnotatedTree, TypedProblemTree, all_declarations}

-- ---- the symbols of a typed problem: `$true`, those that are declared, and then those that occur, by first occurrence in reading order

abbrev mutual
  pub typed_symbols : TypedTree → List Symbol
  typed_symbols truth = []
  typed_symbols falsity = []
  typed_symbols (predicate p ts) = predicate_symbol p (terms_count ts) ∷ terms_symbols ts
  typed_symbols (equation positive s t) = term_symbols s ++ term_symbols t
  typed_symbols (negation f) = typed_symbols f
  typed_symbols (conjunction fs) = all_typed_symbols fs
  typed_symbols (disjunction fs) = all_typed_symbols fs
  typed_symbols (connected c f g) = typed_symbols f ++ typed_symbols g
  typed_symbols (quantified q xs f) = typed_symbols f

  pub all_typed_symbols : TypedTrees → List Symbol
  all_typed_symbols no_formulas = []
  all_typed_symbols (formula_then f fs) = typed_symbols f ++ all_typed_symbols fs

-- the symbol that a declaration declares; a problem lists no declaration of a sort among those of its symbols
abbrev pub symbol_of_type : List ℕ → SymbolType → Symbol
symbol_of_type word t = if has_values t.result then function_symbol word (length t.arguments) else predicate_symbol word (length t.arguments)

abbrev pub symbol_as : List ℕ → Declared → Symbol
symbol_as word a_sort = true_symbol
symbol_as word (a_symbol t) = symbol_of_type word t

abbrev pub declared_symbol : DeclarationTree → Symbol
declared_symbol d = symbol_as d.word d.declared

abbrev pub symbols_of : TypedProblemTree → List Symbol
symbols_of t =
    fold with_symbol (fold with_symbol (true_symbol ∷ []) (map declared_symbol t.declared))
    (flat_map (λ (a : TypedAnnotatedTree). typed_symbols a.formula) t.formulas)

abbrev pub is_function : Symbol → Bool
is_function s = not (is_predicate_kind s.kind)

-- the function symbols, in that order
abbrev pub functions_of : TypedProblemTree → List Symbol
functions_of t = filter is_function (symbols_of t)

-- ---- the predicates of sorts: `ty` and the sort's number, where `ty` has as many `_` behind it as no symbol's name begins with

abbrev pub sort_prefix : TypedProblemTree → List ℕ
sort_prefix t = fresh_prefix_of (symbols_of t) (codes "ty")

abbrev pub has_sort : List ℕ → ℕ → TermTree → FormulaTree
has_sort prefix number t = untyped_predicate (prefix ++ decimal number) (term_then t no_terms)

-- ---- formulas

-- `! [X] : (ty(X) => F)`, or `? [X] : (ty(X) & F)`
abbrev pub guarded : Quantifier → FormulaTree → FormulaTree → FormulaTree
guarded for_all guard f = untyped_connected implies guard f
guarded exists_some guard f = untyped_conjunction (untyped_then guard (untyped_then f no_untyped))

-- one quantifier for each variable
abbrev pub quantified_over : List (List ℕ) → List ℕ → Quantifier → List TypedVariable → FormulaTree → FormulaTree
quantified_over sorts prefix q [] f = f
quantified_over sorts prefix q (x ∷ xs) f =
    untyped_quantified q (x.name ∷ [])
    (guarded q (has_sort prefix (sort_number sorts x.sort) (variable x.name)) (quantified_over sorts prefix q xs f))

abbrev mutual
  pub untyped : List (List ℕ) → List ℕ → TypedTree → FormulaTree
  untyped sorts prefix truth = untyped_truth
  untyped sorts prefix falsity = untyped_falsity
  untyped sorts prefix (predicate p ts) = untyped_predicate p ts
  untyped sorts prefix (equation positive s t) = untyped_equation positive s t
  untyped sorts prefix (negation f) = untyped_negation (untyped sorts prefix f)
  untyped sorts prefix (conjunction fs) = untyped_conjunction (all_untyped sorts prefix fs)
  untyped sorts prefix (disjunction fs) = untyped_disjunction (all_untyped sorts prefix fs)
  untyped sorts prefix (connected c f g) = untyped_connected c (untyped sorts prefix f) (untyped sorts prefix g)
  untyped sorts prefix (quantified q xs f) = quantified_over sorts prefix q xs (untyped sorts prefix f)

  pub all_untyped : List (List ℕ) → List ℕ → TypedTrees → FormulaTrees
  all_untyped sorts prefix no_formulas = no_untyped
  all_untyped sorts prefix (formula_then f fs) = untyped_then (untyped sorts prefix f) (all_untyped sorts prefix fs)

-- ---- sort axioms

-- An axiom that no file has.
abbrev pub made_axiom : List ℕ → ℕ → FormulaTree → Placed
made_axiom base number f = record {
  tree = record { name = base ++ decimal number; role = Axiom; is_clause = false; formula = f };
  file = [];
  place = 0;
}

-- `? [X] : ty(X)`
abbrev pub inhabited : List ℕ → ℕ → FormulaTree
inhabited prefix number = untyped_quantified exists_some (codes "X" ∷ []) (has_sort prefix number (variable (codes "X")))

-- one axiom for each sort from a number on: for `$i` and each of the declared ones
abbrev pub sort_axioms : List ℕ → ℕ → ℕ → List Placed
sort_axioms prefix number zero = []
sort_axioms prefix number (suc more) = made_axiom (codes "sort") number (inhabited prefix number) ∷ sort_axioms prefix (suc number) more

-- ---- function axioms

-- the variable `X0`, `X1`, .. of an argument
abbrev pub argument_variable : ℕ → List ℕ
argument_variable number = codes "X" ++ decimal number

abbrev pub argument_variables : ℕ → List SortTree → List (List ℕ)
argument_variables number [] = []
argument_variables number (s ∷ ss) = argument_variable number ∷ argument_variables (suc number) ss

abbrev pub argument_terms : List (List ℕ) → TermTrees
argument_terms [] = no_terms
argument_terms (x ∷ xs) = term_then (variable x) (argument_terms xs)

abbrev pub argument_guards : List (List ℕ) → List ℕ → ℕ → List SortTree → FormulaTrees
argument_guards sorts prefix number [] = no_untyped
argument_guards sorts prefix number (s ∷ ss) =
    untyped_then (has_sort prefix (sort_number sorts s) (variable (argument_variable number))) (argument_guards sorts prefix (suc number) ss)

-- one guard alone, or a conjunction of several
abbrev pub joined_guards : FormulaTrees → FormulaTree
joined_guards no_untyped = untyped_truth
joined_guards (untyped_then f no_untyped) = f
joined_guards (untyped_then f (untyped_then g gs)) = untyped_conjunction (untyped_then f (untyped_then g gs))

-- `ty(f)` for a constant, and else `! [X0,X1] : ((ty(X0) & ty(X1)) => ty(f(X0,X1)))`
abbrev pub closed_under : List (List ℕ) → List ℕ → List ℕ → SymbolType → List SortTree → FormulaTree
closed_under sorts prefix f t [] = has_sort prefix (sort_number sorts (result_of t)) (application f no_terms)
closed_under sorts prefix f t (s ∷ ss) =
    untyped_quantified for_all (argument_variables 0 (s ∷ ss))
    (untyped_connected implies (joined_guards (argument_guards sorts prefix 0 (s ∷ ss)))
    (has_sort prefix (sort_number sorts (result_of t)) (application f (argument_terms (argument_variables 0 (s ∷ ss))))))

abbrev pub function_axiom : TypedProblemTree → List ℕ → Symbol → FormulaTree
function_axiom t prefix f =
    let wanted : SymbolType = function_type (all_declarations t) f.name f.arity in
    closed_under t.sorts prefix f.name wanted wanted.arguments

abbrev pub function_axioms : TypedProblemTree → List ℕ → ℕ → List Symbol → List Placed
function_axioms t prefix number [] = []
function_axioms t prefix number (f ∷ fs) =
    made_axiom (codes "fun") number (function_axiom t prefix f) ∷ function_axioms t prefix (suc number) fs

-- ---- the translation

abbrev pub translated : TypedProblemTree → List ℕ → TypedAnnotatedTree → Placed
translated t prefix a = record {
  tree = record { name = a.name; role = a.role; is_clause = false; formula = untyped t.sorts prefix a.formula };
  file = a.file;
  place = a.place;
}

abbrev pub translation_by : TypedProblemTree → List ℕ → List Placed
translation_by t prefix =
    sort_axioms prefix 0 (suc (length t.sorts)) ++ function_axioms t prefix 0 (functions_of t) ++ map (translated t prefix) t.formulas

-- the formulas that a typed problem is translated to
abbrev pub translation : TypedProblemTree → List Placed
translation t = translation_by t (sort_prefix t)
