-- Formulas without quantifiers, over literals of clauses. A disjunction carries how many variables of the formula were made before the work
-- on it began.
use Rattle.std.specs.Prelude.{ℕ, ◌+◌, not, List, [], ◌∷◌}
use Rattle.fol_base.specs.Clause.{TreeLiteral}

mutual
  pub data MatrixTree : Type 0 where
    truth : MatrixTree
    falsity : MatrixTree
    literal : TreeLiteral → MatrixTree
    conjunction : MatrixTrees → MatrixTree
    disjunction : ℕ → MatrixTrees → MatrixTree

  pub data MatrixTrees : Type 0 where
    no_matrices : MatrixTrees
    matrix_then : MatrixTree → MatrixTrees → MatrixTrees

-- the trees of a list
abbrev pub matrices_of : List MatrixTree → MatrixTrees
matrices_of [] = no_matrices
matrices_of (m ∷ ms) = matrix_then m (matrices_of ms)

-- the list of trees
abbrev pub list_of_matrices : MatrixTrees → List MatrixTree
list_of_matrices no_matrices = []
list_of_matrices (matrix_then m ms) = m ∷ list_of_matrices ms

-- the matrices in a matrix, itself included
abbrev mutual
  pub matrix_size : MatrixTree → ℕ
  matrix_size truth = 1
  matrix_size falsity = 1
  matrix_size (literal l) = 1
  matrix_size (conjunction ms) = 1 + matrices_size ms
  matrix_size (disjunction began ms) = 1 + matrices_size ms

  pub matrices_size : MatrixTrees → ℕ
  matrices_size no_matrices = 0
  matrices_size (matrix_then m ms) = matrix_size m + matrices_size ms

-- The negation of a literal, and of a truth value. Nothing else stands under a negation; lists stay as they are.
abbrev pub negated : MatrixTree → MatrixTree
negated truth = falsity
negated falsity = truth
negated (literal l) = literal (record { positive = not l.positive; left = l.left; right = l.right })
negated (conjunction ms) = conjunction ms
negated (disjunction began ms) = disjunction began ms
