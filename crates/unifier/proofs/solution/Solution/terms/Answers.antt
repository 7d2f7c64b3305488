use Rattle.std.proofs.Common.{arith}
use Rattle.unifier.specs.Solution.{solved_form}
use Rattle.unifier.proofs.AboutLayouts.RenameLemmas.{own-answer}
use Rattle.unifier.proofs.AboutLayouts.RankLemmas.{own-names, own-codes}
use Rattle.unifier.proofs.solution.Solution.terms.Goals as goal

pub side-requires-clause-names : goal.side-requires-clause-names
side-requires-clause-names c = own-names c.args.self.now _ _ (omega arith) (omega arith) c.requires.fits

pub side-requires-clause-all : goal.side-requires-clause-all
side-requires-clause-all c v less = own-codes c.args.self.now.apart c.args.side v c.args.count less (omega (arith, c.requires.room))

pub returns : goal.returns
returns c = own-answer c.side.result (solved_form c.args.self.now) c.args.side c.args.count c.side.ensures
