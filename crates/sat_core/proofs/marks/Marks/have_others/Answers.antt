use Rattle.sat_core.proofs.AboutConflicts.AnalysisLemmas.{named_at}
use Rattle.sat_core.proofs.marks.Marks.have_others.Goals as goal

pub is_covered-requires : goal.is_covered-requires
is_covered-requires c = named_at _ c.args.literals.now _ c.requires c.loop-literal-test.true
