use Rattle.std.proofs.Common.{arith}
use Rattle.sat_core.proofs.AboutConflicts.AnalysisLemmas.{has_name_at}
use Rattle.sat_core.proofs.watches.Watches.watch.Goals as goal

pub index_mut-requires : goal.index_mut-requires
index_mut-requires c = let h = c.requires.lists _ (has_name_at c.args.literals.now c.args.pair.first c.requires.first) in omega (arith, h, c.code.ensures.below)

pub index_mut-requires-2 : goal.index_mut-requires-2
index_mut-requires-2 c = let h = c.requires.lists _ (has_name_at c.args.literals.now c.args.pair.second c.requires.second) in omega (arith, h, c.code-2.ensures.below)
