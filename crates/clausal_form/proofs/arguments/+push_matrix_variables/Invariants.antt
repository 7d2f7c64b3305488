use Rattle.std.proofs.Common.{◌≡◌, ◌+◌, ◌*◌, ◌++◌, map, drop}
use Rattle.std.specs.Prelude.{◌||◌}
use Rattle.skolem.specs.Matrix.{matrix_size, matrices_size, matrices_of}
use Rattle.skolem.specs.Shape.{matrix_tree}
use Rattle.skolem.specs.Heavy.{some_have_clauses, all_have_clauses}
use Rattle.skolem.specs.Outline.{AreSame}
use Rattle.clausal_form.specs.Occurring.{matrices_variables}
use Rattle.clausal_form.proofs.arguments.+push_matrix_variables.Given as goal

abbrev pub decreases-push_matrix_variables : goal.decreases-push_matrix_variables
decreases-push_matrix_variables l = 2 * matrix_size (matrix_tree l.matrix.now)

abbrev pub decreases-push_listed_variables : goal.decreases-push_listed_variables
decreases-push_listed_variables l = 2 * matrices_size (matrices_of (map matrix_tree l.members.now)) + 1

abbrev pub decreases-push_product_variables : goal.decreases-push_product_variables
decreases-push_product_variables l = 2 * matrices_size (matrices_of (map matrix_tree l.members.now)) + 1

abbrev pub invariant-push_listed_variables-loop-member : goal.invariant-push_listed_variables-loop-member
invariant-push_listed_variables-loop-member l =
    ((l.some || some_have_clauses (matrices_of (map matrix_tree (drop l.member-index l.members)))) ≡ some_have_clauses (matrices_of (map matrix_tree l.members)))
    × AreSame (l.found.variables.items ++ matrices_variables (matrices_of (map matrix_tree (drop l.member-index l.members))))
    (l.initial.found.variables.items ++ matrices_variables (matrices_of (map matrix_tree l.members)))

abbrev pub invariant-push_product_variables-loop-member : goal.invariant-push_product_variables-loop-member
invariant-push_product_variables-loop-member l =
    (all_have_clauses (matrices_of (map matrix_tree (drop l.member-index l.members))) ≡ all_have_clauses (matrices_of (map matrix_tree l.members)))
    × AreSame (l.own.variables.items ++ matrices_variables (matrices_of (map matrix_tree (drop l.member-index l.members))))
    (matrices_variables (matrices_of (map matrix_tree l.members)))
    × (l.found ≡ l.initial.found)
