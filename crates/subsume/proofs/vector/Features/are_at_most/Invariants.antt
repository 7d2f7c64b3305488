use Rattle.std.proofs.Common.{◌≡◌, ◌<◌, ◌≤◌, ℕ, Bool, true}
use Rattle.std.specs.Prelude.{slice_index}
use Rattle.subsume.specs.Features.{slot}
use Rattle.subsume.specs.declared.vector.TheConstants.{MEASURES}
use Rattle.subsume.proofs.vector.Features.are_at_most.Given as goal

abbrev pub invariant-loop-index : goal.invariant-loop-index
invariant-loop-index l =
    ((positive : Bool) (k : ℕ) → k < MEASURES → slice_index l.self.values (slot positive k) ≤ slice_index l.other.values (slot positive k))
    → l.are ≡ true
