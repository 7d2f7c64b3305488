-- The variables of a matrix's clauses, found without writing the clauses: a product with a member that has no clauses has none itself.
use Rattle.std.specs.Prelude.{ℕ, List, [], ◌++◌, flat_map, if◌then◌else◌}
use Rattle.fol_base.specs.Clause.{literal_variables}
use Rattle.signature.specs.Clausal.{Literals}
use Rattle.skolem.specs.Heavy.{all_have_clauses}
use Rattle.skolem.specs.Matrix.{MatrixTree, truth, falsity, literal, conjunction, disjunction, MatrixTrees, no_matrices, matrix_then}

-- the variables of clauses, with repetitions
abbrev pub clauses_variables : List Literals → List ℕ
clauses_variables cs = flat_map (λ c. flat_map literal_variables c) cs

-- the occurrences of variables in the parts that have clauses
abbrev mutual
  pub matrix_variables : MatrixTree → List ℕ
  matrix_variables truth = []
  matrix_variables falsity = []
  matrix_variables (literal l) = literal_variables l
  matrix_variables (conjunction ms) = matrices_variables ms
  matrix_variables (disjunction made ms) = if all_have_clauses ms then matrices_variables ms else []

  pub matrices_variables : MatrixTrees → List ℕ
  matrices_variables no_matrices = []
  matrices_variables (matrix_then m ms) = matrix_variables m ++ matrices_variables ms
