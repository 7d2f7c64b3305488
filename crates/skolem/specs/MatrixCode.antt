-- A code for matrices: a tree whose symbols are numbers for the kinds, and for the variables that were made before a disjunction.
use Rattle.std.specs.Prelude.{◌≡◌, zero, suc, Bool, true, false, refl}
use Rattle.std.specs.Coded.{Coded, code_by}
use Rattle.std.proofs.Common.{ap, ap₂}
use Rattle.fol_base.specs.Tree.{Tree, variable, application, Trees, no_trees, tree_then}
use Rattle.fol_base.specs.TreeCode.{tree_code}
use Rattle.skolem.specs.Matrix.{MatrixTree, truth, falsity, literal, conjunction, disjunction, MatrixTrees, no_matrices, matrix_then}

abbrev pub encoded_literal : Bool → Trees → Tree
encoded_literal true ts = application 2 ts
encoded_literal false ts = application 3 ts

abbrev mutual
  pub encoded : MatrixTree → Tree
  encoded truth = application 0 no_trees
  encoded falsity = application 1 no_trees
  encoded (literal l) = encoded_literal l.positive (tree_then l.left (tree_then l.right no_trees))
  encoded (conjunction ms) = application 4 (encoded_matrices ms)
  encoded (disjunction began ms) = application (suc (suc (suc (suc (suc began))))) (encoded_matrices ms)

  pub encoded_matrices : MatrixTrees → Trees
  encoded_matrices no_matrices = no_trees
  encoded_matrices (matrix_then m ms) = tree_then (encoded m) (encoded_matrices ms)

abbrev pub decoded_literal : Bool → Trees → MatrixTree
decoded_literal positive no_trees = truth
decoded_literal positive (tree_then s no_trees) = truth
decoded_literal positive (tree_then s (tree_then t ts)) = literal (record { positive = positive; left = s; right = t })

abbrev mutual
  pub decoded : Tree → MatrixTree
  decoded (variable v) = truth
  decoded (application zero ts) = truth
  decoded (application (suc zero) ts) = falsity
  decoded (application (suc (suc zero)) ts) = decoded_literal true ts
  decoded (application (suc (suc (suc zero))) ts) = decoded_literal false ts
  decoded (application (suc (suc (suc (suc zero)))) ts) = conjunction (decoded_matrices ts)
  decoded (application (suc (suc (suc (suc (suc began))))) ts) = disjunction began (decoded_matrices ts)

  pub decoded_matrices : Trees → MatrixTrees
  decoded_matrices no_trees = no_matrices
  decoded_matrices (tree_then t ts) = matrix_then (decoded t) (decoded_matrices ts)

pub decoded-literal : (b : Bool) (s t : Tree) → decoded (encoded_literal b (tree_then s (tree_then t no_trees))) ≡ literal (record { positive = b; left = s; right = t })
decoded-literal true s t = refl
decoded-literal false s t = refl

mutual
  pub decoded-matrix : (m : MatrixTree) → decoded (encoded m) ≡ m
  decoded-matrix truth = refl
  decoded-matrix falsity = refl
  decoded-matrix (literal l) = decoded-literal l.positive l.left l.right
  decoded-matrix (conjunction ms) = ap conjunction (decoded-matrices ms)
  decoded-matrix (disjunction began ms) = ap (disjunction began) (decoded-matrices ms)

  pub decoded-matrices : (ms : MatrixTrees) → decoded_matrices (encoded_matrices ms) ≡ ms
  decoded-matrices no_matrices = refl
  decoded-matrices (matrix_then m ms) = ap₂ matrix_then (decoded-matrix m) (decoded-matrices ms)

abbrev pub matrix_code : Coded MatrixTree
matrix_code = code_by Tree tree_code encoded decoded decoded-matrix
