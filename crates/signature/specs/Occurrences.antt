-- The symbols of a problem, by first occurrence in reading order.
use Rattle.std.specs.Prelude.{ℕ, ◌+◌, List, [], ◌∷◌, ◌++◌, flat_map, fold}
use Rattle.tptp_tree.specs.Term.{TermTree, variable, application, TermTrees, no_terms, term_then}
use Rattle.tptp_tree.specs.Formula.{FormulaTree, truth, falsity, predicate, equation, negation, conjunction, disjunction, connected, quantified, FormulaTrees, no_formulas, formula_then}
use Rattle.tptp_tree.specs.Shape.{formula_of}
use Rattle.tptp_tree.specs.declared.problem.Annotated.{Annotated}
use Rattle.signature.specs.declared.symbol.Symbol.{Symbol}
use Rattle.signature.specs.Symbol.{predicate_symbol, function_symbol, true_symbol, with_symbol}

-- the number of terms in a list
abbrev pub terms_count : TermTrees → ℕ
terms_count no_terms = 0
terms_count (term_then t ts) = 1 + terms_count ts

-- the symbols of a term, with repetitions: a head before its arguments
abbrev mutual
  pub term_symbols : TermTree → List Symbol
  term_symbols (variable x) = []
  term_symbols (application f ts) = function_symbol f (terms_count ts) ∷ terms_symbols ts

  pub terms_symbols : TermTrees → List Symbol
  terms_symbols no_terms = []
  terms_symbols (term_then t ts) = term_symbols t ++ terms_symbols ts

-- the symbols of a formula, with repetitions
abbrev mutual
  pub formula_symbols : FormulaTree → List Symbol
  formula_symbols truth = []
  formula_symbols falsity = []
  formula_symbols (predicate p ts) = predicate_symbol p (terms_count ts) ∷ terms_symbols ts
  formula_symbols (equation positive s t) = term_symbols s ++ term_symbols t
  formula_symbols (negation f) = formula_symbols f
  formula_symbols (conjunction fs) = formulas_symbols fs
  formula_symbols (disjunction fs) = formulas_symbols fs
  formula_symbols (connected c f g) = formula_symbols f ++ formula_symbols g
  formula_symbols (quantified q xs f) = formula_symbols f

  pub formulas_symbols : FormulaTrees → List Symbol
  formulas_symbols no_formulas = []
  formulas_symbols (formula_then f fs) = formula_symbols f ++ formulas_symbols fs

-- the symbols of an entry's formula, with repetitions
abbrev pub annotated_symbols : Annotated → List Symbol
annotated_symbols a = formula_symbols (formula_of a.formula)

-- the symbols of a problem by their numbers: `$true`, and the others by first occurrence
abbrev pub problem_symbols : List Annotated → List Symbol
problem_symbols fs = fold with_symbol (true_symbol ∷ []) (flat_map annotated_symbols fs)
