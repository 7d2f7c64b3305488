use Rattle.std.proofs.Common.{arith, sym, subst, refl, ◌-◌}
use Rattle.std.specs.Prelude.{IsTrue}
use Rattle.std.proofs.lemmas.Option.{slice_get_read}
use Rattle.kernel_steps.specs.Marks.{is_marked}
use Rattle.kernel_steps.specs.declared.step.Step.{Step}
use Rattle.tstp_writer.specs.Cone.{IsConeBy}
use Rattle.tstp_writer.specs.Marks.{has_step, IsPassed, IsVisited}
use Rattle.tstp_writer.proofs.AboutNeeded.MarkLemmas.{passed-one-more, cone-is-marked}
use Rattle.tstp_writer.proofs.needed.cone_of.Goals as goal

pub loop-left-preserved : goal.loop-left-preserved
loop-left-preserved g c = (
  omega (arith, c.loop-left.invariant.0),
  passed-one-more g.S.HasStep.meaning c.args.items.now c.args.last (c.loop-left.left - 1) c.index-items-left.result c.loop-left.marks c.visit.new.self
      c.requires.earlier
      (slice_get_read c.args.items.now _ _ _ refl (omega (arith, c.loop-left.invariant.0, c.loop-left-test.true, c.requires.last)) c.index-items-left.is)
      (omega (arith, c.loop-left.invariant.0, c.loop-left-test.true))
      (subst (λ k. IsPassed g.S.HasStep.meaning c.args.items.now c.args.last k c.loop-left.marks) (omega (arith, c.loop-left-test.true)) c.loop-left.invariant.1)
      c.visit.ensures.room c.visit.ensures.kept
      (subst
      (λ (s : Step). IsTrue (has_step c.visit.new.self (c.loop-left.left - 1) s) → IsTrue (is_marked c.visit.new.self.steps.items (c.loop-left.left - 1)))
      c.step.ensures c.in_ok-visit.ensures.settled)
      (subst (λ (s : Step). IsVisited (c.loop-left.left - 1) s c.loop-left.marks c.visit.new.self) c.step.ensures c.in_ok-visit.ensures.visited),
)

pub returns : goal.returns
returns g c =
    subst (IsConeBy g.S.HasStep.meaning c.args.items.now c.args.last) (sym c.in_ok-numbers.ensures)
    (cone-is-marked g.S.HasStep.meaning c.args.items.now c.args.last c.loop-left.marks c.requires.earlier c.requires.last
    (subst (λ k. IsPassed g.S.HasStep.meaning c.args.items.now c.args.last k c.loop-left.marks) (omega (arith, c.loop-left-test.false)) c.loop-left.invariant.1))
