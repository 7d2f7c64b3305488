-- The variables of formulas and terms over names, and the terms that stand for those in force.
use Rattle.std.specs.Prelude.{ℕ, not, List, [], ◌∷◌, ◌++◌, filter, if◌then◌else◌, bytes_eq}
use Rattle.std.specs.List.{list_any}
use Rattle.tptp_tree.specs.Term.{TermTree, variable as named_variable, application as named_application, TermTrees, no_terms, term_then}
use Rattle.tptp_tree.specs.Formula.{for_all, FormulaTree, truth, falsity, predicate, equation, negation, conjunction, disjunction, connected, quantified, FormulaTrees, no_formulas, formula_then}
use Rattle.tptp_tree.specs.Shape.{formula_of}
use Rattle.tptp_tree.specs.declared.problem.Annotated.{Annotated}
use Rattle.fol_base.specs.Tree.{Tree, variable, application, Trees, no_trees, tree_then}
use Rattle.signature.specs.declared.symbol.Symbol.{Symbol}
use Rattle.signature.specs.Symbol.{function_symbol, number_of}
use Rattle.signature.specs.Occurrences.{terms_count}

-- the names of a term's variables, with repetitions
abbrev mutual
  pub term_names : TermTree → List (List ℕ)
  term_names (named_variable x) = x ∷ []
  term_names (named_application f ts) = terms_names ts

  pub terms_names : TermTrees → List (List ℕ)
  terms_names no_terms = []
  terms_names (term_then t ts) = term_names t ++ terms_names ts

-- the names of a list that are not bound, in their order
abbrev pub without_names : List (List ℕ) → List (List ℕ) → List (List ℕ)
without_names bound xs = filter (λ x. not (list_any (bytes_eq x) bound)) xs

-- the names of a formula's free variables, with repetitions
abbrev mutual
  pub free_names : FormulaTree → List (List ℕ)
  free_names truth = []
  free_names falsity = []
  free_names (predicate p ts) = terms_names ts
  free_names (equation positive s t) = term_names s ++ term_names t
  free_names (negation f) = free_names f
  free_names (conjunction fs) = all_free_names fs
  free_names (disjunction fs) = all_free_names fs
  free_names (connected c f g) = free_names f ++ free_names g
  free_names (quantified q xs f) = without_names xs (free_names f)

  pub all_free_names : FormulaTrees → List (List ℕ)
  all_free_names no_formulas = []
  all_free_names (formula_then f fs) = free_names f ++ all_free_names fs

-- the different names of a list, in the order of their first places
abbrev pub different_names : List (List ℕ) → List (List ℕ)
different_names [] = []
different_names (x ∷ xs) = x ∷ without_names (x ∷ []) (different_names xs)

-- a formula under `!` with those variables, and the formula alone where there is none
abbrev pub under_for_all : List (List ℕ) → FormulaTree → FormulaTree
under_for_all [] f = f
under_for_all (x ∷ xs) f = quantified for_all (x ∷ xs) f

-- The formula of an entry: the variables of a `cnf` formula are universally quantified, in the order of their first occurrences.
abbrev pub closed : Annotated → FormulaTree
closed a =
    let f : FormulaTree = formula_of a.formula in
    if a.clause then under_for_all (different_names (free_names f)) f else f

-- the variables in force with their terms, the innermost first
abbrev pub Environment : Type 0
Environment = List (List ℕ × Tree)

-- The term of the innermost variable of that name. A formula that is worked on has no variable that isn't in force.
abbrev pub term_in_force : Environment → List ℕ → Tree
term_in_force [] x = variable 0
term_in_force (b ∷ env) x = if bytes_eq b.0 x then b.1 else term_in_force env x

-- the tree of a term under the variables in force, its symbols by their numbers
abbrev mutual
  pub term_under : List Symbol → Environment → TermTree → Tree
  term_under known env (named_variable x) = term_in_force env x
  term_under known env (named_application f ts) =
      application (number_of known (function_symbol f (terms_count ts))) (terms_under known env ts)

  pub terms_under : List Symbol → Environment → TermTrees → Trees
  terms_under known env no_terms = no_trees
  terms_under known env (term_then t ts) = tree_then (term_under known env t) (terms_under known env ts)
