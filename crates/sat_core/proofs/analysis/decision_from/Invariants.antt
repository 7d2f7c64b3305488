use Rattle.std.proofs.Common.{ℕ, ◌<◌, ◌≤◌}
use Rattle.std.specs.Prelude.{IsSome}
use Rattle.sat_core.specs.Trail.{entry_at}
use Rattle.sat_core.proofs.analysis.decision_from.Given as goal

abbrev pub invariant-loop-index : goal.invariant-loop-index
invariant-loop-index l = (k : ℕ) → l.low ≤ k → k < l.index → IsSome (entry_at l.trail.entries.items k).reason
