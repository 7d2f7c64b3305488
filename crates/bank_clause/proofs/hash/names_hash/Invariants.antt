use Rattle.std.proofs.Common.{◌≡◌, take}
use Rattle.bank_clause.specs.ClauseHash.{names_hash}
use Rattle.bank_clause.proofs.hash.names_hash.Given as goal

abbrev pub invariant-loop-name : goal.invariant-loop-name
invariant-loop-name l = l.named ≡ names_hash l.hash (take l.name-index l.names)
