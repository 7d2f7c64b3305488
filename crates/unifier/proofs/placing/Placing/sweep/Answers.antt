use Rattle.std.proofs.Common.{◌+◌, Bool, true, subst, sym}
use Rattle.unifier.specs.declared.placing.Visit.{Visit}
use Rattle.unifier.specs.Placing.{VisitDone}
use Rattle.unifier.proofs.AboutLayouts.PlacingLemmas.{SweepSoFar, sweep-placed, sweep-waits, sweep-kept}
use Rattle.unifier.proofs.placing.Placing.sweep.Goals as goal
use Rattle.unifier.proofs.placing.Placing.sweep.Goals.{in-Placed, in-Waiting, in-Kept}

pub loop-cell-preserved : goal.loop-cell-preserved
loop-cell-preserved c =
    let so_far : Bool → Bool → Type 0 = λ a b. SweepSoFar c.args.cells.now c.args.classes.now c.args.self.now c.visit.new.self (c.loop-cell.cell + 1) a b in
    let P : Bool → Type 0 = λ b. so_far b c.match-branch-2.waiting in
    let D : Visit → Type 0 = λ v. VisitDone c.args.cells.now c.args.classes.now c.loop-cell.self c.visit.new.self c.loop-cell.cell v in
    elim c.match-branch-2.branch [
      | in-Placed w ↦
          subst P (sym w.placed-is)
          (subst (so_far true) (sym w.waiting-is)
          (sweep-placed c.args.cells.now c.args.classes.now c.args.self.now c.loop-cell.self c.visit.new.self c.loop-cell.cell c.loop-cell.placed c.loop-cell.waiting
          c.loop-cell.invariant c.in_ok-visit.ensures.placing (subst D w.in-Placed.is c.in_ok-visit.ensures.done)))
      | in-Waiting w ↦
          subst P (sym w.placed-is)
          (subst (so_far c.loop-cell.placed) (sym w.waiting-is)
          (sweep-waits c.args.cells.now c.args.classes.now c.args.self.now c.loop-cell.self c.visit.new.self c.loop-cell.cell c.loop-cell.placed c.loop-cell.waiting
          c.loop-cell.invariant (subst D w.in-Waiting.is c.in_ok-visit.ensures.done)))
      | in-Kept w ↦
          subst P (sym w.placed-is)
          (subst (so_far c.loop-cell.placed) (sym w.waiting-is)
          (sweep-kept c.args.cells.now c.args.classes.now c.args.self.now c.loop-cell.self c.visit.new.self c.loop-cell.cell c.loop-cell.placed c.loop-cell.waiting
          c.loop-cell.invariant (subst D w.in-Kept.is c.in_ok-visit.ensures.done)))
    ]
