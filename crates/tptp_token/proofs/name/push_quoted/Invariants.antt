use Rattle.std.proofs.Common.{◌≡◌, ◌++◌, take, flat_map}
use Rattle.tptp_token.specs.Words.{escaped_byte}
use Rattle.tptp_token.proofs.name.push_quoted.Given as goal

abbrev pub invariant-loop-byte : goal.invariant-loop-byte
invariant-loop-byte l = l.page.items ≡ l.initial.page.items ++ flat_map escaped_byte (take l.byte-index l.name)
