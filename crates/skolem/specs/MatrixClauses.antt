-- The clauses of a matrix: those of a conjunction's members one after the other, and the product of a disjunction's from left to right,
-- two lists at a time.
use Rattle.std.specs.Prelude.{ℕ, true, false, List, [], ◌∷◌}
use Rattle.signature.specs.Clausal.{SymbolNumbers, Literals, Worked, Work, product, joined, truth_value, one_literal}
use Rattle.skolem.specs.Matrix.{MatrixTree, truth, falsity, literal, conjunction, disjunction, MatrixTrees, no_matrices, matrix_then}

abbrev mutual
  pub matrix_clauses : SymbolNumbers → MatrixTree → Work
  matrix_clauses n truth m = truth_value true m
  matrix_clauses n falsity m = truth_value false m
  matrix_clauses n (literal l) m = one_literal l m
  matrix_clauses n (conjunction ms) m = listed_matrices n ms m
  matrix_clauses n (disjunction began ms) m = product_of_matrices n began ([] ∷ []) ms m

  pub listed_matrices : SymbolNumbers → MatrixTrees → Work
  listed_matrices n no_matrices m = truth_value true m
  listed_matrices n (matrix_then x xs) m = joined n true (matrix_clauses n x) (listed_matrices n xs) m

  -- the product of the clauses that are there with those of each matrix
  pub product_of_matrices : SymbolNumbers → ℕ → List Literals → MatrixTrees → Work
  product_of_matrices n began cs no_matrices m = record { clauses = cs; made = m }
  product_of_matrices n began cs (matrix_then x xs) m =
      let w : Worked = matrix_clauses n x m in
      let v : Worked = product n began cs w.clauses w.made in
      product_of_matrices n began v.clauses xs v.made
