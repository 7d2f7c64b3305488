use Rattle.std.proofs.Common.{◌≡◌, ◌++◌}
use Rattle.signature.specs.Prefix.{underscores}
use Rattle.signature.proofs.prefix.fresh_prefix.Given as goal

abbrev pub invariant-loop : goal.invariant-loop
invariant-loop l = l.prefix.items ≡ l.base ++ underscores l.counter
