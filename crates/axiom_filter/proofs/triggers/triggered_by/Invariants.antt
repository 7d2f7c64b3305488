use Rattle.std.proofs.Common.{◌≡◌, ◌*◌, ◌++◌, nat_le, get_or, length, drop, filter}
use Rattle.axiom_filter.proofs.triggers.triggered_by.Given as goal

abbrev pub invariant-loop-place : goal.invariant-loop-place
invariant-loop-place l =
    l.list ++ filter (λ place. nat_le (100 * length l.places) (l.tolerance * get_or l.rarest place 0)) (drop l.place-index l.places)
    ≡ filter (λ place. nat_le (100 * length l.places) (l.tolerance * get_or l.rarest place 0)) l.places
