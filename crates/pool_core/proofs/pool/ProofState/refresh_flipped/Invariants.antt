use Rattle.pool_core.proofs.AboutWaking.RefreshLemmas.{AreFlippedSoFar}
use Rattle.pool_core.proofs.pool.ProofState.refresh_flipped.Given as goal

abbrev pub invariant-loop-place : goal.invariant-loop-place
invariant-loop-place l = AreFlippedSoFar l.before l.jobs.entries l.fn.self l.self l.place
