use Rattle.unifier.proofs.AboutMatching.MatchLemmas.{NoVariableTwice-cut, cut-pairs}
use Rattle.unifier.proofs.matched.Matched.cut.Goals as goal

pub invariant_of-self : goal.invariant_of-self
invariant_of-self c = NoVariableTwice-cut c.args.count c.self.inside.pairs.items _ c.truncate.ensures.items c.self.invariant

pub returns : goal.returns
returns c = cut-pairs c.args.count c.self.inside.pairs.items _ c.args.self.now c.truncate.ensures.items c.self.view_is
