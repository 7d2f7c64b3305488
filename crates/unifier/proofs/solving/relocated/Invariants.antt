use Rattle.std.proofs.Common.{◌≡◌, take, map}
use Rattle.unifier.specs.Solving.{relocated}
use Rattle.unifier.proofs.solving.relocated.Given as goal

abbrev pub invariant-loop-place : goal.invariant-loop-place
invariant-loop-place l = l.made.items ≡ map (relocated l.classes l.placing) (take l.place-index l.places)
