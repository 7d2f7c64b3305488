use Rattle.std.proofs.Common.{◌≡◌, map, take}
use Rattle.congruence.specs.Congruence.{equation_at}
use Rattle.congruence.proofs.conflict.equations_of.Given as goal

abbrev pub invariant-loop-name : goal.invariant-loop-name
invariant-loop-name l = l.equations.items ≡ map (equation_at l.atoms) (take l.name-index l.names)
