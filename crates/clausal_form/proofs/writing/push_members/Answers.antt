use Rattle.std.proofs.Common.{arith}
use Rattle.std.proofs.lemmas.List.{take_all}
use Rattle.skolem.proofs.AboutBindings.ListLemmas.{take-kept, longer-kept}
use Rattle.clausal_form.specs.Agenda.{agenda_size}
use Rattle.clausal_form.proofs.AboutWriting.AgendaLemmas.{pushed-clauses, pushed-size, pushed-none, size-none}
use Rattle.clausal_form.proofs.writing.push_members.Goals as goal

pub loop-left-init : goal.loop-left-init
loop-left-init c = (
  pushed-none c.args.members.now _ c.args.matrices.now.items (omega arith),
  size-none c.args.members.now _ (agenda_size c.args.matrices.now.items) (omega arith),
  take_all _ _ (omega arith),
  omega arith,
  omega arith,
)

pub loop-left-preserved : goal.loop-left-preserved
loop-left-preserved c = (
  pushed-clauses c.args.members.now _ _ _ _ _ _ (omega (arith, c.loop-left-test.true)) (omega (arith, c.loop-left-test.true, c.loop-left.invariant.4)) c.index-members-left.is c.in_ok-push.ensures.items c.loop-left.invariant.0,
  pushed-size c.args.members.now _ _ _ _ _ _ (omega (arith, c.loop-left-test.true)) (omega (arith, c.loop-left-test.true, c.loop-left.invariant.4)) c.index-members-left.is c.in_ok-push.ensures.items c.loop-left.invariant.1,
  take-kept _ _ _ _ c.loop-left.invariant.2 c.in_ok-push.ensures.items c.loop-left.invariant.3,
  longer-kept _ _ _ _ c.in_ok-push.ensures.items c.loop-left.invariant.3,
  omega (arith, c.loop-left-test.true, c.loop-left.invariant.4),
)
