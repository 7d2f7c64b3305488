use Rattle.unifier.specs.declared.classes.Classes.{Classes}
use Rattle.unifier.proofs.AboutClasses.ClassLemmas.{when-true}
use Rattle.unifier.proofs.AboutClasses.ClosingLemmas.{from-itself, from-on, closed-at-last, refuted-at-last, closed-before, cannot-before}
use Rattle.unifier.proofs.classes.Classes.close.Goals as goal

pub loop-init : goal.loop-init
loop-init c = from-itself c.args.cells.now c.args.first c.args.second c.join_with_parts.new.self (when-true _ _ _ c.in_ok-join_with_parts.ensures.follows c.if-not-branch.false).classes

pub loop-preserved-in-Joined : goal.loop-preserved-in-Joined
loop-preserved-in-Joined c =
    let start : Classes = c.join_with_parts.new.self in
    from-on c.args.cells.now c.args.first c.args.second start c.loop.self c.settle.new.self c.join-joined.new.self c.round.new.self
    c.loop.invariant c.settle.ensures.follows c.join-joined.ensures.sound c.in-Joined.ensures.follows

pub loop-preserved : goal.loop-preserved
loop-preserved c =
    let start : Classes = c.join_with_parts.new.self in
    from-on c.args.cells.now c.args.first c.args.second start c.loop.self c.settle.new.self c.join-joined.new.self c.round.new.self
    c.loop.invariant c.settle.ensures.follows c.join-joined.ensures.sound c.in-Unchanged.ensures.follows

pub returns-then-not-joined : goal.returns-then-not-joined
returns-then-not-joined c =
    let start : Classes = c.join_with_parts.new.self in
    closed-before c.args.cells.now c.args.first c.args.second c.args.self.now start c.round.new.self (when-true _ _ _ c.in_ok-join_with_parts.ensures.follows c.if-not-branch.false)
    (closed-at-last c.args.cells.now c.args.first c.args.second start c.loop.self c.settle.new.self c.join-joined.new.self c.round.new.self
    c.join-joined.result c.loop.invariant c.settle.ensures.follows c.settle.ensures.settled c.join-joined.ensures.sound c.join-joined.ensures.joined
    c.in-Unchanged.ensures.follows c.in-Unchanged.ensures.done c.if-not-joined.true)

pub returns-in-Refuted : goal.returns-in-Refuted
returns-in-Refuted c =
    let start : Classes = c.join_with_parts.new.self in
    cannot-before c.args.cells.now c.args.first c.args.second c.args.self.now start (when-true _ _ _ c.in_ok-join_with_parts.ensures.follows c.if-not-branch.false)
    (refuted-at-last c.args.cells.now c.args.first c.args.second start c.loop.self c.settle.new.self c.join-joined.new.self
    c.loop.invariant c.settle.ensures.follows c.join-joined.ensures.sound c.in-Refuted.ensures.done)
