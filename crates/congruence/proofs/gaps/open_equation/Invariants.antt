use Rattle.std.proofs.Common.{◌≡◌, drop}
use Rattle.congruence.specs.Congruence.{class_in, joins_all}
use Rattle.congruence.proofs.gaps.open_equation.Given as goal

abbrev pub invariant-loop-index : goal.invariant-loop-index
invariant-loop-index l = joins_all (class_in l.classes) (drop l.index l.equations) ≡ joins_all (class_in l.classes) l.equations
