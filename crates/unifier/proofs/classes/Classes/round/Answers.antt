use Rattle.unifier.proofs.AboutClasses.ClassLemmas.{follows-on, refuted-before, round-joined, round-unchanged}
use Rattle.unifier.proofs.classes.Classes.round.Goals as goal

pub loop-cell-preserved-in-Joined : goal.loop-cell-preserved-in-Joined
loop-cell-preserved-in-Joined c = record {
  follows = follows-on c.args.cells.now c.args.self.now c.loop-cell.self c.step.new.self c.loop-cell.invariant.follows c.in-Joined.ensures.follows;
  done =
      round-joined c.args.cells.now c.args.self.now c.loop-cell.self c.step.new.self c.loop-cell.cell c.loop-cell.cell c.loop-cell.joined
      c.loop-cell.invariant.done c.in-Joined.ensures.done;
}

pub loop-cell-preserved : goal.loop-cell-preserved
loop-cell-preserved c = record {
  follows = follows-on c.args.cells.now c.args.self.now c.loop-cell.self c.step.new.self c.loop-cell.invariant.follows c.in-Unchanged.ensures.follows;
  done =
      round-unchanged c.args.cells.now c.args.self.now c.loop-cell.self c.step.new.self c.loop-cell.cell c.loop-cell.joined
      c.loop-cell-test.true c.loop-cell.invariant.done c.in-Unchanged.ensures.done;
}

pub returns-in-Refuted-clause-follows : goal.returns-in-Refuted-clause-follows
returns-in-Refuted-clause-follows c =
    follows-on c.args.cells.now c.args.self.now c.loop-cell.self c.step.new.self c.loop-cell.invariant.follows c.in-Refuted.ensures.follows

pub returns-in-Refuted-clause-done : goal.returns-in-Refuted-clause-done
returns-in-Refuted-clause-done c =
    refuted-before c.args.cells.now c.args.self.now c.loop-cell.self c.loop-cell.invariant.follows c.in-Refuted.ensures.done
