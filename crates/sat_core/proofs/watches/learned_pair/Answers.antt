use Rattle.sat_core.proofs.AboutConflicts.AnalysisLemmas.{named_at}
use Rattle.sat_core.proofs.watches.learned_pair.Goals as goal

pub place-requires : goal.place-requires
place-requires c = named_at _ c.args.literals.now _ c.requires.within c.loop-index-test.true
