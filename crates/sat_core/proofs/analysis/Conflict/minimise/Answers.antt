use Rattle.std.proofs.Common.{refl}
use Rattle.sat_core.proofs.AboutConflicts.ReduceLemmas.{reduced_from}
use Rattle.sat_core.proofs.analysis.Conflict.minimise.Goals as goal

pub loop-index-init : goal.loop-index-init
loop-index-init c = record {
  start = refl;
  literals = refl;
  reduced = reduced_from _ _ _ _ _ _ _ _ c.requires.resolving c.requires.last;
}
