use Rattle.std.proofs.Common.{◌≡◌, ◌+◌, drop}
use Rattle.signature.specs.Prefix.{underscore_run}
use Rattle.signature.proofs.prefix.run_of_underscores.Given as goal

abbrev pub invariant-loop-place : goal.invariant-loop-place
invariant-loop-place l = l.place + underscore_run (drop l.place l.text) ≡ underscore_run l.text
