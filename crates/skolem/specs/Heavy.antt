-- Which parts of a normal form have clauses, and of its matrix; literals of over MOST_SYMBOLS symbols in a matrix's clauses; and the symbols of its
-- literals together. A product with a member that has no clauses has none itself, and so no literal.
use Rattle.std.specs.Prelude.{◌≡◌, ⊤, ℕ, ◌+◌, ◌<◌, nat_lt, Bool, true, false, ◌&&◌, ◌||◌, if◌then◌else◌}
use Rattle.tptp_tree.specs.Formula.{FormulaTree, truth, falsity, predicate, equation, negation, conjunction, disjunction, connected, quantified, FormulaTrees, no_formulas, formula_then}
use Rattle.fol_base.specs.Clause.{literal_size}
use Rattle.fol_base.specs.declared.limits.TheConstants.{MOST_SYMBOLS, MOST_FORM_SYMBOLS}
use Rattle.skolem.specs.Matrix.{MatrixTree, truth as true_matrix, falsity as false_matrix, literal, conjunction as all_of, disjunction as some_of, MatrixTrees, no_matrices, matrix_then}
use Rattle.skolem.specs.SkolemizedLaws.{is_predicate}
use Rattle.skolem.specs.declared.forms.MatrixEnd.{MatrixEnd}
use Rattle.skolem.specs.declared.forms.MatrixEnd.TheVariants.{NoMemory, TooHeavy, TotalLimit}

abbrev mutual
  pub has_clauses : MatrixTree → Bool
  has_clauses true_matrix = false
  has_clauses false_matrix = true
  has_clauses (literal l) = true
  has_clauses (all_of ms) = some_have_clauses ms
  has_clauses (some_of made ms) = all_have_clauses ms

  pub some_have_clauses : MatrixTrees → Bool
  some_have_clauses no_matrices = false
  some_have_clauses (matrix_then m ms) = has_clauses m || some_have_clauses ms

  pub all_have_clauses : MatrixTrees → Bool
  all_have_clauses no_matrices = true
  all_have_clauses (matrix_then m ms) = has_clauses m && all_have_clauses ms

abbrev mutual
  pub heavy_matrix : MatrixTree → Bool
  heavy_matrix true_matrix = false
  heavy_matrix false_matrix = false
  heavy_matrix (literal l) = nat_lt MOST_SYMBOLS (literal_size l)
  heavy_matrix (all_of ms) = some_heavy ms
  heavy_matrix (some_of made ms) = all_have_clauses ms && some_heavy ms

  pub some_heavy : MatrixTrees → Bool
  some_heavy no_matrices = false
  some_heavy (matrix_then m ms) = heavy_matrix m || some_heavy ms

-- the symbols of the literals in a matrix's clauses, each literal counted once
abbrev mutual
  pub matrix_total : MatrixTree → ℕ
  matrix_total true_matrix = 0
  matrix_total false_matrix = 0
  matrix_total (literal l) = literal_size l
  matrix_total (all_of ms) = matrix_totals ms
  matrix_total (some_of made ms) = if all_have_clauses ms then matrix_totals ms else 0

  pub matrix_totals : MatrixTrees → ℕ
  matrix_totals no_matrices = 0
  matrix_totals (matrix_then m ms) = matrix_total m + matrix_totals ms

-- ---- normal forms, where negation stands before predicates alone

abbrev mutual
  pub form_has_clauses : FormulaTree → Bool
  form_has_clauses truth = false
  form_has_clauses falsity = true
  form_has_clauses (predicate p ts) = true
  form_has_clauses (equation positive s t) = true
  form_has_clauses (negation f) = is_predicate f
  form_has_clauses (conjunction fs) = some_form_has_clauses fs
  form_has_clauses (disjunction fs) = all_forms_have_clauses fs
  form_has_clauses (connected c f g) = false
  form_has_clauses (quantified q xs f) = form_has_clauses f

  pub some_form_has_clauses : FormulaTrees → Bool
  some_form_has_clauses no_formulas = false
  some_form_has_clauses (formula_then f fs) = form_has_clauses f || some_form_has_clauses fs

  pub all_forms_have_clauses : FormulaTrees → Bool
  all_forms_have_clauses no_formulas = true
  all_forms_have_clauses (formula_then f fs) = form_has_clauses f && all_forms_have_clauses fs

-- the symbols that are counted of a part: its total if it stands in clauses
abbrev pub total_in : Bool → ℕ → ℕ
total_in in_clauses total = if in_clauses then total else 0

-- Out of memory says nothing. Too heavy: the part stands in clauses, and a literal in its own clauses is too heavy. Over the total: its literals
-- together have too many symbols with those that were counted before.
abbrev pub IsMatrixEnd : MatrixEnd → Bool → ℕ → Bool → ℕ → Type 0
IsMatrixEnd NoMemory in_clauses counted heavy total = ⊤
IsMatrixEnd TooHeavy in_clauses counted heavy total = (in_clauses && heavy) ≡ true
IsMatrixEnd TotalLimit in_clauses counted heavy total = MOST_FORM_SYMBOLS < counted + total_in in_clauses total
