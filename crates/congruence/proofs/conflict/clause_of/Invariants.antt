use Rattle.std.proofs.Common.{◌≡◌, map, take}
use Rattle.plain_types.specs.Names.{negative_of}
use Rattle.congruence.proofs.conflict.clause_of.Given as goal

abbrev pub invariant-loop-reason : goal.invariant-loop-reason
invariant-loop-reason l = l.clause.items ≡ map negative_of (take l.reason-index l.reasons)
