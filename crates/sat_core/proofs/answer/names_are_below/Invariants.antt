use Rattle.std.proofs.Common.{◌≡◌, drop}
use Rattle.sat_core.specs.Clause.{names_below}
use Rattle.sat_core.proofs.answer.names_are_below.Given as goal

abbrev pub invariant-loop-number : goal.invariant-loop-number
invariant-loop-number l = names_below l.bound (drop l.number l.clauses) ≡ names_below l.bound l.clauses
