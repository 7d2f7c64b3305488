use Rattle.std.proofs.Common.{arith}
use Rattle.unifier.proofs.AboutLayouts.RankLemmas.{own-names}
use Rattle.unifier.proofs.solution.Solution.apply.Goals as goal

pub filled-requires-clause-names : goal.filled-requires-clause-names
filled-requires-clause-names c = own-names c.args.self.now _ _ (omega arith) (omega arith) c.requires.fits
