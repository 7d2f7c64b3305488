-- The matrix of a normal form: its quantifiers go, and for their variables stand new variables and Skolem terms.
use Rattle.std.specs.Prelude.{ℕ, true, List, [], ◌++◌, length, IsTrue}
use Rattle.std.specs.List.{list_all}
use Rattle.tptp_tree.specs.Formula.{FormulaTree, truth, falsity, predicate, equation, negation, conjunction, disjunction, connected, quantified, FormulaTrees, no_formulas, formula_then}
use Rattle.fol_base.specs.Tree.{application}
use Rattle.signature.specs.declared.symbol.Symbol.{Symbol}
use Rattle.signature.specs.Symbol.{predicate_symbol, function_symbol, number_of, has_symbol}
use Rattle.signature.specs.Occurrences.{terms_count}
use Rattle.signature.specs.Environment.{Environment, term_under, terms_under}
use Rattle.signature.specs.Clausal.{SymbolNumbers, Made, Scope, atom_literal, makes_variables, scope_of}
use Rattle.signature.specs.Form.{nothing_made, numbered_symbols}
use Rattle.skolem.specs.Matrix.{MatrixTree, truth as true_matrix, falsity as false_matrix, literal, conjunction as all_of, disjunction as some_of, MatrixTrees, no_matrices, matrix_then, negated}

-- a matrix, and the state after the work on it
pub record Skolemized : Type 0 where
  pub matrix : MatrixTree
  pub made : Made

-- matrices, and the state after the work on them
pub record SkolemizedList : Type 0 where
  pub matrices : MatrixTrees
  pub made : Made

-- The matrix of a formula in negation normal form: negation stands before predicates alone, and there is no connective but `&` and `|`.
-- Where another connective stands, the matrix is `$true`, which says nothing.
abbrev mutual
  pub skolemized : SymbolNumbers → FormulaTree → Environment → Made → Skolemized
  skolemized n truth env m = record { matrix = true_matrix; made = m }
  skolemized n falsity env m = record { matrix = false_matrix; made = m }
  skolemized n (predicate p ts) env m =
      record {
        matrix = literal (atom_literal true (application (number_of n.symbols (predicate_symbol p (terms_count ts))) (terms_under n.symbols env ts)));
        made = m;
      }
  skolemized n (equation positive s t) env m =
      record {
        matrix = literal (record { positive = positive; left = term_under n.symbols env s; right = term_under n.symbols env t });
        made = m;
      }
  skolemized n (negation f) env m =
      let s : Skolemized = skolemized n f env m in
      record { matrix = negated s.matrix; made = s.made }
  skolemized n (conjunction fs) env m =
      let s : SkolemizedList = skolemized_list n fs env m in
      record { matrix = all_of s.matrices; made = s.made }
  skolemized n (disjunction fs) env m =
      let s : SkolemizedList = skolemized_list n fs env m in
      record { matrix = some_of m.variables s.matrices; made = s.made }
  skolemized n (connected c f g) env m = record { matrix = true_matrix; made = m }
  skolemized n (quantified q xs f) env m =
      let s : Scope = scope_of n (makes_variables q true) xs f env m in
      skolemized n f s.environment s.made

  -- from left to right
  pub skolemized_list : SymbolNumbers → FormulaTrees → Environment → Made → SkolemizedList
  skolemized_list n no_formulas env m = record { matrices = no_matrices; made = m }
  skolemized_list n (formula_then f fs) env m =
      let s : Skolemized = skolemized n f env m in
      let rest : SkolemizedList = skolemized_list n fs env s.made in
      record { matrices = matrix_then s.matrix rest.matrices; made = rest.made }

-- The Skolem symbols come after the symbols that are known.
abbrev pub numbers_after : List Symbol → SymbolNumbers
numbers_after known = record { symbols = known; first_skolem = length known; first_naming = length known }

-- a form of its own, in which no variable is in force
abbrev pub skolemized_form : List Symbol → FormulaTree → Skolemized
skolemized_form known f = skolemized (numbers_after known) f [] nothing_made

-- the known symbols with the form's Skolem symbols, named by the prefix and the numbers from `next` on
abbrev pub skolemized_symbols : List Symbol → List ℕ → ℕ → FormulaTree → List Symbol
skolemized_symbols known prefix next f = known ++ numbered_symbols function_symbol prefix next (skolemized_form known f).made.skolem_arities

-- ---- conditions

abbrev pub IsKnown : List Symbol → Symbol → Type 0
IsKnown known s = IsTrue (has_symbol s known)

abbrev pub AreKnown : List Symbol → List Symbol → Type 0
AreKnown known symbols = IsTrue (list_all (λ s. has_symbol s known) symbols)
