use Rattle.std.proofs.Common.{◌≡◌, map, take}
use Rattle.congruence.specs.Joined.{lowered}
use Rattle.congruence.proofs.closing.with_lowered.Given as goal

abbrev pub invariant-loop-class : goal.invariant-loop-class
invariant-loop-class l = l.made.items ≡ map (lowered l.first l.second) (take l.class-index l.classes)
