use Rattle.std.proofs.Common.{◌≡◌, nat_eq, take}
use Rattle.std.specs.HashSet.{contains}
use Rattle.axiom_filter.specs.Places.{places_from}
use Rattle.axiom_filter.proofs.parts.numbers_kept.Given as goal

abbrev pub invariant-loop-number : goal.invariant-loop-number
invariant-loop-number l = l.numbers ≡ places_from 0 (contains nat_eq l.kept) (take l.number l.origins)
