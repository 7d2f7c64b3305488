use Rattle.std.proofs.Common.{◌≡◌, ◌++◌, take, drop, []}
use Rattle.sort_checks.specs.Lent.{bodies_of, declared_among}
use Rattle.sort_checks.specs.Tables.{repeats_from}
use Rattle.sort_checks.proofs.repeats.repeated_declarations.Given as goal

abbrev pub invariant-loop-index : goal.invariant-loop-index
invariant-loop-index l =
    l.repeated.items ++ repeats_from (declared_among (take l.index (bodies_of l.entries))) (drop l.index (bodies_of l.entries)) ≡ repeats_from [] (bodies_of l.entries)
