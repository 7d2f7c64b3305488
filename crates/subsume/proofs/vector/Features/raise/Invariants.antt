use Rattle.std.proofs.Common.{◌≡◌, ◌<◌, ◌≤◌, ℕ, max}
use Rattle.std.specs.Prelude.{slice_index}
use Rattle.subsume.proofs.vector.Features.raise.Given as goal

abbrev pub invariant-loop-index : goal.invariant-loop-index
invariant-loop-index l =
    ((n : ℕ) → n < l.index → slice_index l.self.values n ≡ max (slice_index l.fn.self.values n) (slice_index l.other.values n))
    × ((n : ℕ) → l.index ≤ n → slice_index l.self.values n ≡ slice_index l.fn.self.values n)
