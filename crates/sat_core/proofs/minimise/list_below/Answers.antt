use Rattle.sat_core.proofs.AboutConflicts.AnalysisLemmas.{named_at}
use Rattle.sat_core.proofs.minimise.list_below.Goals as goal

pub place-place-requires : goal.place-place-requires
place-place-requires c = named_at _ c.args.literals.now _ c.requires c.loop-literal-test.true
