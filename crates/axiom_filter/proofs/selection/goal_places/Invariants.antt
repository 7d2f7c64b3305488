use Rattle.std.proofs.Common.{◌≡◌, take}
use Rattle.axiom_filter.specs.Places.{places_from}
use Rattle.axiom_filter.specs.Selection.{is_goal}
use Rattle.axiom_filter.proofs.selection.goal_places.Given as goal

abbrev pub invariant-loop-place : goal.invariant-loop-place
invariant-loop-place l = l.goals ≡ places_from 0 is_goal (take l.place l.formulas)
