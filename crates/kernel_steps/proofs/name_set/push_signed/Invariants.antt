use Rattle.std.proofs.Common.{◌≡◌, ◌++◌, map}
use Rattle.plain_types.specs.Names.{signed}
use Rattle.kernel_steps.proofs.name_set.push_signed.Given as goal

abbrev pub invariant-loop-number : goal.invariant-loop-number
invariant-loop-number l =
    l.names.items ++ map (signed l.positive) l.number-iterator ≡ l.initial.names.items ++ map (signed l.positive) l.numbers.keys
