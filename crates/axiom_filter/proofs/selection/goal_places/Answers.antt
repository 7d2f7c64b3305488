use Rattle.std.proofs.Common.{◌≡◌, get_or, sym, ◌∙◌}
use Rattle.axiom_filter.specs.Selection.{is_goal}
use Rattle.axiom_filter.proofs.AboutTables.IndexLemmas.{place-listed, place-skipped}
use Rattle.axiom_filter.proofs.selection.goal_places.Goals as goal
use Rattle.axiom_filter.proofs.selection.goal_places.Goals.{then-is_goal+in_ok-push, else-is_goal}

pub loop-place-preserved : goal.loop-place-preserved
loop-place-preserved c =
    let read : is_goal (get_or c.args.formulas.now c.loop-place.place c.index-formulas-place.result) ≡ c.is_goal.result =
    sym c.is_goal.ensures in
    elim c.if-is_goal.branch [
      | then-is_goal+in_ok-push w ↦
          place-listed is_goal c.args.formulas.now c.loop-place.place c.index-formulas-place.result c.loop-place.goals c.if-is_goal.goals
          c.loop-place-test.true (read ∙ w.if-is_goal.true) (w.goals-is ∙ w.in_ok-push.ensures.ok) c.loop-place.invariant
      | else-is_goal w ↦
          place-skipped is_goal c.args.formulas.now c.loop-place.place c.index-formulas-place.result c.loop-place.goals c.if-is_goal.goals
          c.loop-place-test.true (read ∙ w.if-is_goal.false) w.goals-is c.loop-place.invariant
    ]
