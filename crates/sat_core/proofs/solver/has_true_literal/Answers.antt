use Rattle.sat_core.proofs.AboutConflicts.AnalysisLemmas.{named_at}
use Rattle.sat_core.proofs.solver.has_true_literal.Goals as goal

pub is_true-requires : goal.is_true-requires
is_true-requires c = named_at _ c.args.literals.now _ c.requires c.loop-literal-test.true
