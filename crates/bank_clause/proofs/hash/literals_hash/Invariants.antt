use Rattle.std.proofs.Common.{◌≡◌, take}
use Rattle.std.specs.Prelude.{fold}
use Rattle.bank_clause.specs.ClauseHash.{literal_hash}
use Rattle.bank_clause.proofs.hash.literals_hash.Given as goal

abbrev pub invariant-loop-literal : goal.invariant-loop-literal
invariant-loop-literal l = l.hash ≡ fold literal_hash 0 (take l.literal-index l.literals)
