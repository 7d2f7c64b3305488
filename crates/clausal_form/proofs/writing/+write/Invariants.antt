use Rattle.std.proofs.Common.{◌≡◌, ◌+◌, ◌*◌, ◌++◌, map, drop}
use Rattle.fol_base.specs.Literal.{clause_of}
use Rattle.skolem.specs.Matrix.{matrix_size, matrices_size, matrices_of}
use Rattle.skolem.specs.Shape.{matrix_tree}
use Rattle.signature.specs.Clausal.{all_pairs}
use Rattle.clausal_form.specs.Written.{all_written}
use Rattle.clausal_form.specs.Agenda.{lent_literal, agenda_clauses, agenda_size, canonical_after, placed}
use Rattle.clausal_form.proofs.writing.+write.Given as goal

abbrev pub decreases-write_agenda : goal.decreases-write_agenda
decreases-write_agenda l = 2 * agenda_size l.agenda.now.matrices.items + 1

abbrev pub decreases-write_matrix : goal.decreases-write_matrix
decreases-write_matrix l = 2 * (matrix_size (matrix_tree l.matrix.now) + agenda_size l.agenda.now.matrices.items)

abbrev pub decreases-write_each : goal.decreases-write_each
decreases-write_each l = 2 * (matrices_size (matrices_of (map matrix_tree l.members.now)) + agenda_size l.agenda.now.matrices.items) + 1

abbrev pub invariant-write_each-loop-member : goal.invariant-write_each-loop-member
invariant-write_each-loop-member l =
    (map clause_of l.output.clauses.items
    ++ map (canonical_after (map lent_literal l.initial.agenda.literals.items)) (all_pairs (all_written (matrices_of (map matrix_tree (drop l.member-index l.members)))) (agenda_clauses l.initial.agenda.matrices.items))
    ≡ map clause_of l.initial.output.clauses.items
    ++ map (canonical_after (map lent_literal l.initial.agenda.literals.items)) (all_pairs (all_written (matrices_of (map matrix_tree l.members))) (agenda_clauses l.initial.agenda.matrices.items)))
    × (l.output.origins.items
    ++ map (placed l.place) (all_pairs (all_written (matrices_of (map matrix_tree (drop l.member-index l.members)))) (agenda_clauses l.initial.agenda.matrices.items))
    ≡ l.initial.output.origins.items
    ++ map (placed l.place) (all_pairs (all_written (matrices_of (map matrix_tree l.members))) (agenda_clauses l.initial.agenda.matrices.items)))
    × (l.agenda.literals.items ≡ l.initial.agenda.literals.items)
    × (l.agenda.matrices.items ≡ l.initial.agenda.matrices.items)
