-- The program's matrices as matrices over trees.
use Rattle.skolem.specs.Matrix.{MatrixTree, truth, falsity, literal, conjunction, disjunction, matrices_of}
use Rattle.skolem.specs.declared.matrix.Matrix.{Matrix}
use Rattle.skolem.specs.declared.matrix.Matrix.TheVariants.{True, False, Lit, And, Or}

abbrev pub matrix_tree : Matrix → MatrixTree
matrix_tree True = truth
matrix_tree False = falsity
matrix_tree (Lit l) = literal l
matrix_tree (And ms) = conjunction (matrices_of ms)
matrix_tree (Or made ms) = disjunction made (matrices_of ms)
