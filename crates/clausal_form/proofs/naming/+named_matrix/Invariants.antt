use Rattle.std.proofs.Common.{◌≡◌, ◌≤◌, ◌+◌, ◌*◌, [], ◌∷◌, map}
use Rattle.std.specs.Vec.Iter.{into_iter_items}
use Rattle.skolem.specs.Matrix.{matrix_size, matrices_size, matrices_of}
use Rattle.skolem.specs.Shape.{matrix_tree}
use Rattle.skolem.specs.MatrixClauses.{listed_matrices, product_of_matrices}
use Rattle.clausal_form.specs.Written.{written}
use Rattle.clausal_form.specs.Naming.{IsMeasured, defining_clauses, naming_made, naming_numbers}
use Rattle.clausal_form.proofs.AboutNaming.NamingLemmas.{IsListing}
use Rattle.clausal_form.proofs.naming.+named_matrix.Given as goal

abbrev pub decreases-named_matrix : goal.decreases-named_matrix
decreases-named_matrix l = 2 * matrix_size (matrix_tree l.matrix)

abbrev pub decreases-named_list : goal.decreases-named_list
decreases-named_list l = 2 * matrices_size (matrices_of l.members) + 1

abbrev pub decreases-named_product : goal.decreases-named_product
decreases-named_product l = 2 * matrices_size (matrices_of l.members) + 1

abbrev pub invariant-named_list-loop-member : goal.invariant-named_list-loop-member
invariant-named_list-loop-member l =
    IsListing (naming_numbers l.initial.naming.first) (into_iter_items l.member-iterator) l.naming (written (matrix_tree l.list.matrix))
    (listed_matrices (naming_numbers l.initial.naming.first) (matrices_of l.fn.members) (naming_made l.initial.naming))
    × IsMeasured l.list.measure (written (matrix_tree l.list.matrix))
    × IsMeasured l.naming.measure (defining_clauses l.naming)
    × (l.naming.first ≡ l.initial.naming.first)
    × (matrices_size (matrices_of (map matrix_tree (into_iter_items l.member-iterator))) ≤ matrices_size (matrices_of l.fn.members))

abbrev pub invariant-named_product-loop-member : goal.invariant-named_product-loop-member
invariant-named_product-loop-member l =
    (product_of_matrices (naming_numbers l.initial.naming.first) l.made (written (matrix_tree l.product.matrix)) (matrices_of (map matrix_tree (into_iter_items l.member-iterator))) (naming_made l.naming)
    ≡ product_of_matrices (naming_numbers l.initial.naming.first) l.made ([] ∷ []) (matrices_of l.fn.members) (naming_made l.initial.naming))
    × IsMeasured l.product.measure (written (matrix_tree l.product.matrix))
    × IsMeasured l.naming.measure (defining_clauses l.naming)
    × (l.naming.first ≡ l.initial.naming.first)
    × (matrices_size (matrices_of (map matrix_tree (into_iter_items l.member-iterator))) ≤ matrices_size (matrices_of l.fn.members))
