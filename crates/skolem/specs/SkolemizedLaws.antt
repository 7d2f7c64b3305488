-- Laws of matrices.
use Rattle.std.specs.Prelude.{◌≡◌, ◌+◌, Bool, true, false, ◌&&◌, length, IsTrue}
use Rattle.tptp_tree.specs.Formula.{FormulaTree, truth, falsity, predicate, equation, negation, conjunction, disjunction, connected, quantified, FormulaTrees, no_formulas, formula_then}
use Rattle.signature.specs.Environment.{Environment}
use Rattle.signature.specs.Clausal.{SymbolNumbers, Made, clauses_of}
use Rattle.signature.specs.Form.{skolem_count}
use Rattle.formula_nnf.specs.NormalForm.{normal_form}
use Rattle.skolem.specs.Skolemized.{Skolemized, skolemized}
use Rattle.skolem.specs.MatrixClauses.{matrix_clauses}

-- The matrix of a formula's normal form under a sign has as many Skolem symbols as are counted.
abbrev pub SkolemSymbolsOfMatrixAreCounted : Type 0
SkolemSymbolsOfMatrixAreCounted =
    (n : SymbolNumbers) (f : FormulaTree) (sign : Bool) (env : Environment) (m : Made)
    → length (skolemized n (normal_form f sign) env m).made.skolem_arities ≡ length m.skolem_arities + skolem_count f sign

-- ---- clauses

-- a predicate, which alone may stand under a negation
abbrev pub is_predicate : FormulaTree → Bool
is_predicate truth = false
is_predicate falsity = false
is_predicate (predicate p ts) = true
is_predicate (equation positive s t) = false
is_predicate (negation f) = false
is_predicate (conjunction fs) = false
is_predicate (disjunction fs) = false
is_predicate (connected c f g) = false
is_predicate (quantified q xs f) = false

-- negation normal form: negation stands before predicates alone, and there is no connective but `&` and `|`
abbrev mutual
  pub is_normal : FormulaTree → Bool
  is_normal truth = true
  is_normal falsity = true
  is_normal (predicate p ts) = true
  is_normal (equation positive s t) = true
  is_normal (negation f) = is_predicate f
  is_normal (conjunction fs) = are_normal fs
  is_normal (disjunction fs) = are_normal fs
  is_normal (connected c f g) = false
  is_normal (quantified q xs f) = is_normal f

  pub are_normal : FormulaTrees → Bool
  are_normal no_formulas = true
  are_normal (formula_then f fs) = is_normal f && are_normal fs

-- The clauses of a formula in negation normal form are those of its matrix. The variables and Skolem symbols are made before the first
-- product.
abbrev pub MatrixKeepsClauses : Type 0
MatrixKeepsClauses =
    (n : SymbolNumbers) (f : FormulaTree) (env : Environment) (m : Made) → IsTrue (is_normal f)
    → (let s : Skolemized = skolemized n f env m in clauses_of n f true env m ≡ matrix_clauses n s.matrix s.made)

-- The clauses of a formula with a sign are those of its normal form's matrix.
abbrev pub MatrixOfNormalFormKeepsClauses : Type 0
MatrixOfNormalFormKeepsClauses =
    (n : SymbolNumbers) (f : FormulaTree) (sign : Bool) (env : Environment) (m : Made)
    → (let s : Skolemized = skolemized n (normal_form f sign) env m in clauses_of n f sign env m ≡ matrix_clauses n s.matrix s.made)
