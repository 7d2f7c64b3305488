use Rattle.sat_core.proofs.AboutConflicts.AnalysisLemmas.{named_at}
use Rattle.sat_core.proofs.minimise.list_marked.Goals as goal

pub is_left-requires-clause-named : goal.is_left-requires-clause-named
is_left-requires-clause-named c =
    rw c.deref-literal-items.ensures.value
    (named_at _ c.args.marks.now.literals.items _ c.requires.within (rw c.deref-literal-items.ensures.value at c.loop-literal-test.true))
