use Rattle.std.proofs.Common.{◌≡◌, map, take}
use Rattle.axiom_filter.specs.Tables.{rare_enough}
use Rattle.axiom_filter.proofs.triggers.triggered.Given as goal

abbrev pub invariant-loop-places : goal.invariant-loop-places
invariant-loop-places l = l.lists.items ≡ map (rare_enough l.tolerance l.rarest) (take l.places-index l.index)
