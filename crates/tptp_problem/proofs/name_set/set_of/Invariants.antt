use Rattle.std.proofs.Common.{take}
use Rattle.tptp_problem.specs.NameSets.{HasNames}
use Rattle.tptp_problem.proofs.name_set.set_of.Given as goal

abbrev pub invariant-loop-name : goal.invariant-loop-name
invariant-loop-name l = HasNames (take l.name-index l.names) l.set
