use Rattle.std.proofs.Common.{◌≡◌, ℕ, ◌<◌, false, length, get_or, take}
use Rattle.kernel_steps.specs.Split.{has_number}
use Rattle.kernel_steps.proofs.split.has_all_below.Given as goal

abbrev pub invariant-loop-place : goal.invariant-loop-place
invariant-loop-place l =
    (length l.found.items ≡ l.count)
    × ((k : ℕ) → k < l.count → get_or l.found.items k false ≡ has_number k (take l.place-index l.places))
