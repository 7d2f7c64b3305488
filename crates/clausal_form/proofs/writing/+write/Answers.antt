use Rattle.std.proofs.Common.{arith, ap, map, refl}
use Rattle.skolem.specs.Shape.{matrix_tree}
use Rattle.clausal_form.specs.Agenda.{lent_literal, agenda_size, canonical_after, placed}
use Rattle.clausal_form.proofs.AboutForms.ResultLemmas.{ok-then}
use Rattle.clausal_form.proofs.AboutWriting.AgendaLemmas.{taken-last, false-left, literal-left, literal-place, lent-last, popped-size, member-size}
use Rattle.clausal_form.proofs.writing.+write.Goals as goal

pub write_agenda-write_matrix-requires : goal.write_agenda-write_matrix-requires
write_agenda-write_matrix-requires t c = omega (arith, popped-size _ _ _ c.in-Some.ensures.items, c.decreases)

pub write_agenda-returns-in_ok-push-in-Some-clause-clauses : goal.write_agenda-returns-in_ok-push-in-Some-clause-clauses
write_agenda-returns-in_ok-push-in-Some-clause-clauses t c =
    taken-last (canonical_after (map lent_literal c.args.agenda.now.literals.items)) _ _ _ _ _ c.in-Some.ensures.items c.in_ok-write_matrix-in-Some.ensures.clauses

pub write_agenda-returns-in_ok-push-in-Some-clause-origins : goal.write_agenda-returns-in_ok-push-in-Some-clause-origins
write_agenda-returns-in_ok-push-in-Some-clause-origins t c =
    taken-last (placed c.args.place) _ _ _ _ _ c.in-Some.ensures.items c.in_ok-write_matrix-in-Some.ensures.origins

pub write_each-write_matrix-requires : goal.write_each-write_matrix-requires
write_each-write_matrix-requires t c =
    omega (arith, member-size _ _ _ c.loop-member-test.true c.member-item.is, ap agenda_size c.loop-member.invariant.3, c.decreases)

pub write_matrix-returns-in-False-clause-clauses : goal.write_matrix-returns-in-False-clause-clauses
write_matrix-returns-in-False-clause-clauses t c =
    ok-then c.write_agenda.result (λ _ h. false-left (canonical_after (map lent_literal c.args.agenda.now.literals.items)) _ _ _ _ (ap matrix_tree c.in-False.is) h)
    c.write_agenda.ensures.clauses

pub write_matrix-returns-in-False-clause-origins : goal.write_matrix-returns-in-False-clause-origins
write_matrix-returns-in-False-clause-origins t c =
    ok-then c.write_agenda.result (λ _ h. false-left (placed c.args.place) _ _ _ _ (ap matrix_tree c.in-False.is) h) c.write_agenda.ensures.origins

pub write_matrix-returns-in_ok-write_agenda-in-Lit-clause-clauses : goal.write_matrix-returns-in_ok-write_agenda-in-Lit-clause-clauses
write_matrix-returns-in_ok-write_agenda-in-Lit-clause-clauses t c =
    literal-left _ _ _ _ _ _ _ (ap matrix_tree c.in-Lit.is) (lent-last _ _ _ _ c.in_ok-push-in-Lit.ensures.items refl)
    c.in_ok-write_agenda-in-Lit.ensures.clauses

pub write_matrix-returns-in_ok-write_agenda-in-Lit-clause-origins : goal.write_matrix-returns-in_ok-write_agenda-in-Lit-clause-origins
write_matrix-returns-in_ok-write_agenda-in-Lit-clause-origins t c =
    literal-place c.args.place _ _ _ _ _ (ap matrix_tree c.in-Lit.is) c.in_ok-write_agenda-in-Lit.ensures.origins
