-- The clauses of a matrix with all its products written out, however large: no part gets a name.
use Rattle.std.specs.Prelude.{List, [], ◌∷◌, ◌++◌}
use Rattle.signature.specs.Clausal.{Literals, all_pairs}
use Rattle.skolem.specs.Matrix.{MatrixTree, truth, falsity, literal, conjunction, disjunction, MatrixTrees, no_matrices, matrix_then}

abbrev mutual
  pub written : MatrixTree → List Literals
  written truth = []
  written falsity = [] ∷ []
  written (literal l) = (l ∷ []) ∷ []
  written (conjunction ms) = all_written ms
  written (disjunction made ms) = product_written ([] ∷ []) ms

  -- one list after another
  pub all_written : MatrixTrees → List Literals
  all_written no_matrices = []
  all_written (matrix_then m ms) = written m ++ all_written ms

  -- their product with the clauses that are there, from left to right
  pub product_written : List Literals → MatrixTrees → List Literals
  product_written cs no_matrices = cs
  product_written cs (matrix_then m ms) = product_written (all_pairs cs (written m)) ms
