use Rattle.sat_core.proofs.AboutConflicts.AnalysisLemmas.{named_at}
use Rattle.sat_core.proofs.solver.free_literal.Goals as goal

pub place-requires : goal.place-requires
place-requires c = named_at _ c.args.literals.now _ c.requires c.loop-literal-test.true

pub returns-then-place-eq0-clause-named : goal.returns-then-place-eq0-clause-named
returns-then-place-eq0-clause-named c = named_at _ c.args.literals.now _ c.requires c.loop-literal-test.true
