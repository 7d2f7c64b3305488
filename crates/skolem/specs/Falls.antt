-- Each member of a list is smaller than the list, which is why a recursion down a matrix ends.
use Rattle.std.specs.Prelude.{◌≤◌, List, [], ◌∷◌, map}
use Rattle.std.proofs.Common.{arith}
use denote.Param.Weighed.{most}
use Rattle.skolem.specs.Matrix.{matrix_size, matrices_size, matrices_of}
use Rattle.skolem.specs.Shape.{matrix_tree}
use Rattle.skolem.specs.declared.matrix.Matrix.{Matrix}
use Rattle.skolem.specs.declared.matrix.Matrix.TheVariants.{True, False, Lit, And, Or}
use Rattle.skolem.specs.declared.matrix.Matrices.TheDeep.{deep-Matrix}

pub deep-Matrix-≤ : (m : Matrix) → deep-Matrix m ≤ matrix_size (matrix_tree m)
deep-Matrix-≤ True = omega arith
deep-Matrix-≤ False = omega arith
deep-Matrix-≤ (Lit l) = omega arith
deep-Matrix-≤ (And ms) = omega arith
deep-Matrix-≤ (Or made ms) = omega arith

pub most-deep-Matrix-≤ : (ms : List Matrix) → most deep-Matrix ms ≤ matrices_size (matrices_of (map matrix_tree ms))
most-deep-Matrix-≤ [] = omega arith
most-deep-Matrix-≤ (m ∷ ms) = omega (arith, deep-Matrix-≤ m, most-deep-Matrix-≤ ms)
