use Rattle.std.proofs.Common.{◌≡◌, ◌+◌, ◌≤◌, [], ◌∷◌, map, drop, take, length}
use Rattle.skolem.specs.Matrix.{matrices_size, matrices_of}
use Rattle.skolem.specs.Shape.{matrix_tree}
use Rattle.signature.specs.Clausal.{all_pairs}
use Rattle.clausal_form.specs.Written.{product_written}
use Rattle.clausal_form.specs.Agenda.{agenda_clauses, agenda_size}
use Rattle.clausal_form.proofs.writing.push_members.Given as goal

abbrev pub invariant-loop-left : goal.invariant-loop-left
invariant-loop-left l =
    (agenda_clauses l.matrices.items
    ≡ all_pairs (product_written ([] ∷ []) (matrices_of (map matrix_tree (drop l.left l.members)))) (agenda_clauses l.initial.matrices.items))
    × (agenda_size l.matrices.items ≡ agenda_size l.initial.matrices.items + matrices_size (matrices_of (map matrix_tree (drop l.left l.members))))
    × (take (length l.initial.matrices.items) l.matrices.items ≡ l.initial.matrices.items)
    × (length l.initial.matrices.items ≤ length l.matrices.items)
    × (l.left ≤ length l.members)

abbrev pub decreases-loop-left : goal.decreases-loop-left
decreases-loop-left l = l.left
