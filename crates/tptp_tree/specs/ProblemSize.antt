-- The size of a problem: formulas, occurrences and quantified variables. Each is spelled by a byte of its own at least, so that
-- a problem of at most 2^28 bytes meets the bound.
use Rattle.std.specs.Prelude.{ℕ, ◌+◌, ◌≤◌, List, [], ◌∷◌, length}
use Rattle.tptp_tree.specs.declared.limits.TheConstants.{MOST_PROBLEM_SIZE}
use Rattle.tptp_tree.specs.Term.{term_size, terms_size}
use Rattle.tptp_tree.specs.Formula.{FormulaTree, truth, falsity, predicate, equation, negation, conjunction, disjunction, connected, quantified, FormulaTrees, no_formulas, formula_then}
use Rattle.tptp_tree.specs.Shape.{formula_of}
use Rattle.tptp_tree.specs.declared.problem.Annotated.{Annotated}

-- the occurrences of symbols and variables in a formula, and the variables that it quantifies
abbrev mutual
  pub occurrences : FormulaTree → ℕ
  occurrences truth = 0
  occurrences falsity = 0
  occurrences (predicate p ts) = 1 + terms_size ts
  occurrences (equation positive s t) = term_size s + term_size t
  occurrences (negation f) = occurrences f
  occurrences (conjunction fs) = all_occurrences fs
  occurrences (disjunction fs) = all_occurrences fs
  occurrences (connected c f g) = occurrences f + occurrences g
  occurrences (quantified q xs f) = length xs + occurrences f

  pub all_occurrences : FormulaTrees → ℕ
  all_occurrences no_formulas = 0
  all_occurrences (formula_then f fs) = occurrences f + all_occurrences fs

-- the occurrences in all formulas of a problem
abbrev pub total_occurrences : List Annotated → ℕ
total_occurrences [] = 0
total_occurrences (a ∷ fs) = occurrences (formula_of a.formula) + total_occurrences fs

-- the size of a problem: formulas, occurrences of symbols and variables, and quantified variables
abbrev pub problem_size : List Annotated → ℕ
problem_size fs = length fs + total_occurrences fs

-- the bound on the size of every problem that a call is handed
abbrev pub HasProblemSize : List Annotated → Type 0
HasProblemSize fs = problem_size fs ≤ MOST_PROBLEM_SIZE
