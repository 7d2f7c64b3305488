use Rattle.std.proofs.Common.{◌≡◌, ℕ, nat_eq, take}
use Rattle.std.specs.HashSet.{contains}
use Rattle.axiom_filter.specs.Tables.{has_number}
use Rattle.axiom_filter.proofs.parts.number_set.Given as goal

abbrev pub invariant-loop-number : goal.invariant-loop-number
invariant-loop-number l = (n : ℕ) → contains nat_eq l.set n ≡ has_number n (take l.number-index l.numbers)
