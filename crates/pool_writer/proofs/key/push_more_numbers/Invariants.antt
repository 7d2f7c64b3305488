use Rattle.std.proofs.Common.{◌≡◌, ◌++◌, map, drop}
use Rattle.std.specs.Fmt.{decimal}
use Rattle.kernel_steps.specs.Keys.{commas_before}
use Rattle.pool_writer.proofs.key.push_more_numbers.Given as goal

abbrev pub invariant-loop-number : goal.invariant-loop-number
invariant-loop-number l =
    l.page ++ commas_before (map decimal (drop l.number-index l.numbers)) ≡ l.initial.page ++ commas_before (map decimal l.numbers)
