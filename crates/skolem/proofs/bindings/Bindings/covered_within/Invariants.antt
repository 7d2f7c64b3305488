use Rattle.std.proofs.Common.{ℕ, List}
use Rattle.skolem.specs.Bindings.{Covers}
use Rattle.skolem.proofs.bindings.Bindings.covered_within.Given as goal

abbrev pub invariant-loop-covered : goal.invariant-loop-covered
invariant-loop-covered l = (vs : List ℕ) → Covers l.self l.place vs → Covers l.self l.covered vs

abbrev pub decreases-loop-covered : goal.decreases-loop-covered
decreases-loop-covered l = l.covered
